-- Where no cell is taken the search finds a plan, or there is none.
use Rattle.std.proofs.Common.{ℕ, List, arith, replicate, None, Some, Option, is_some}
use Rattle.rules.specs.Problem.{most_rows, messages}
use Rattle.places.specs.Places.{Few}
use Rattle.planner.specs.Least.{Decides}
use Rattle.planner.specs.Search.{unplanned, Suiting, Searched}
use Rattle.planner.proofs.Room.{best-all, nowhere-all}
use Rattle.planner.proofs.Least.{least-plan, no-plan}
use Rattle.planner.proofs.has_plan.Goals as goal

decides : {p : List ℕ} → Few p → (r : Option (List ℕ)) → Searched (Suiting p (replicate most_rows 0)) (messages p) 0 unplanned r → Decides p (is_some r)
decides F (Some u) B = record { words = _; plan = (least-plan F.formed unplanned u (omega (arith, F.most)) (best-all F.formed B)).plan }
decides F None N = record { none = no-plan F.formed (nowhere-all F.formed N) }

pub returns : goal.returns
returns c = rw c.is_some.ensures (decides c.requires c.plan_around.result c.plan_around.ensures)
