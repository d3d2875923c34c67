-- The columns of the base rows passed are in.
use Rattle.planner.specs.Search.{Columns}
use Rattle.planner.proofs.columns_in.Given as goal

abbrev pub invariant-loop-r : goal.invariant-loop-r
invariant-loop-r l = Columns l.table l.j l.r l.columns
