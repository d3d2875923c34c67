use Rattle.std.proofs.Common.{arith}
use Rattle.places.proofs.Tables.{row_more, made_more}
use Rattle.places.proofs.allowed.Goals as goal

pub loop-r-preserved : goal.loop-r-preserved
loop-r-preserved c = row_more _ _ _ _ _ _ c.table_at.ensures.0 (omega arith) (rw c.words.ensures at c.allowed_in.ensures) c.loop-r.invariant

pub loop-j-preserved : goal.loop-j-preserved
loop-j-preserved c = made_more _ _ _ _ c.messages-j-end.ensures.few (omega arith) (omega arith) (omega arith) c.loop-r.invariant c.loop-j.invariant
