use Rattle.prices.proofs.Joining.{joint-in-set, joint-in-skip}
use Rattle.prices.proofs.joint_in.Goals as goal
use Rattle.prices.proofs.joint_in.Goals.{then-has_bit, else-has_bit}

pub loop-j-preserved : goal.loop-j-preserved
loop-j-preserved c =
    elim c.if-has_bit.branch [
      | then-has_bit w ↦ rw w.x-is (joint-in-set _ _ _ _ w.step.ensures.often.is w.table_at.ensures.0 c.loop-j.invariant)
      | else-has_bit w ↦ rw w.x-is (joint-in-skip _ _ _ _ c.has_bit.ensures w.if-has_bit.false c.loop-j.invariant)
    ]
