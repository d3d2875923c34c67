-- What the loops know: nothing that fits and begins with the placements made has message `at` at a place passed, which are those of the columns no longer left and
-- those of the column that it is at. The number of messages still unplaced falls with each call.
use Rattle.std.proofs.Common.{◌-◌}
use Rattle.rules.specs.Problem.{messages}
use Rattle.planner.specs.Search.{Fitting}
use Rattle.planner.proofs.Columns.{Passed, Turn}
use Rattle.planner.proofs.+search.Given as goal

abbrev pub decreases-search : goal.decreases-search
decreases-search l = messages l.p.now - l.at

abbrev pub invariant-loop-c : goal.invariant-loop-c
invariant-loop-c l = Passed (Fitting l.p l.table l.at) l.at l.plan l.c-iterator.left

abbrev pub invariant-loop-r : goal.invariant-loop-r
invariant-loop-r l = Turn (Fitting l.p l.table l.at) l.at l.plan l.c-iterator.left l.c l.r
