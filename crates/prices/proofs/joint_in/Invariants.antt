-- The word has each column in which one of the messages passed may be sent: those of the next message of the set are joined to it.
use Rattle.prices.specs.Prices.{JointIn}
use Rattle.prices.proofs.joint_in.Given as goal

abbrev pub invariant-loop-j : goal.invariant-loop-j
invariant-loop-j l = JointIn l.p l.table l.left l.i l.j l.x
