use Rattle.std.proofs.Common.{arith}
use Rattle.places.proofs.Tables.{made_more}
use Rattle.prices.proofs.Paying.{paid-skip}
use Rattle.prices.proofs.narrow.Goals as goal
use Rattle.prices.proofs.narrow.Goals.{then-has_bit+else-loop-r-test, else-has_bit}

pub loop-j-preserved : goal.loop-j-preserved
loop-j-preserved c =
    elim c.if-has_bit.branch [
      | then-has_bit+else-loop-r-test w ↦ rw w.table-is (made_more _ _ _ _ c.messages-j-end.ensures.few (omega arith) (omega arith) (omega arith) w.loop-r.invariant c.loop-j.invariant)
      | else-has_bit w ↦ rw w.table-is (paid-skip c.has_bit.ensures w.if-has_bit.false c.loop-j.invariant)
    ]
