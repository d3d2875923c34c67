-- Either the next message is needed too, or it is dropped; what was needed before is needed still, since fewer messages are never harder to plan.
use Rattle.std.proofs.Common.{arith}
use Rattle.crowd.specs.Crowd.{crowd}
use Rattle.crowd.proofs.Walk.{walked-needed, walked-dropped, walked_all}
use Rattle.crowd.proofs.smallest.Goals.{then-not-have_plan as dropped, else-not-have_plan as needed}
use Rattle.crowd.proofs.smallest.Goals as goal

pub loop-j-preserved : goal.loop-j-preserved
loop-j-preserved c = elim c.if-not-have_plan.branch [
  | dropped w ↦ rw w.group-is (walked-dropped c.requires c.loop-j.invariant c.without-fewer.ensures w.if-not-have_plan.true c.have_plan.ensures)
  | needed w ↦ rw w.group-is (walked-needed c.requires c.loop-j.invariant c.without-fewer.ensures w.if-not-have_plan.false c.have_plan.ensures)
]

pub returns : goal.returns
returns c = crowd (rw c.if-has_plan.false at c.has_plan.ensures) (walked_all c.requires (omega (arith, c.messages_of-messages.ensures.0)) c.loop-j.invariant)
