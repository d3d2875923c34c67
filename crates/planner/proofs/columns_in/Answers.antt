-- A base row's columns are joined to those of the rows before.
use Rattle.planner.proofs.Columns.{columns-more}
use Rattle.planner.proofs.columns_in.Goals as goal

pub loop-r-preserved : goal.loop-r-preserved
loop-r-preserved c = columns-more c.table_at.ensures.0 c.loop-r.invariant
