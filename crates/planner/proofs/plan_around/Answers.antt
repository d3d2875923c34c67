-- The search begins with nothing placed, and with the table of all places that have no cell that is taken.
use Rattle.planner.proofs.Room.{searched-around}
use Rattle.planner.proofs.plan_around.Goals as goal

pub returns : goal.returns
returns c = searched-around (rw c.of-problem.ensures at c.allowed.ensures) _ _ c.search.result (rw c.of-problem.ensures at c.search.ensures)
