use Rattle.std.proofs.Common.{arith, length-set}
use Rattle.prices.proofs.Joining.{joint-next}
use Rattle.prices.proofs.joint.Goals as goal

pub loop-i-preserved : goal.loop-i-preserved
loop-i-preserved c = (simp length-set c.loop-i.invariant.0, joint-next (omega arith) c.joint_in.ensures c.loop-i.invariant.1)
