-- The messages passed are set, and no others, since the loop begins with the first.
use Rattle.planner.specs.Search.{From}
use Rattle.planner.proofs.unplaced.Given as goal

abbrev pub invariant-loop-j : goal.invariant-loop-j
invariant-loop-j l = From l.at l.j l.left
