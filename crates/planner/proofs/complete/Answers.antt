-- The other messages are a well-formed problem of their own; the least that suits it is joined with what is kept.
use Rattle.std.proofs.Common.{arith}
use Rattle.proposal.proofs.KeptMet.{kept-faultless}
use Rattle.planner.proofs.Parting.{rest-formed}
use Rattle.planner.proofs.Completing.{completed, incomplete}
use Rattle.planner.proofs.complete.Goals as goal

pub plan_around-requires : goal.plan_around-requires
plan_around-requires c = record { formed = rest-formed c.requires c.part_of-part.ensures; most = omega (arith, c.part_of-part.ensures.count, c.requires.few) }

pub returns-in_err-plan : goal.returns-in_err-plan
returns-in_err-plan c = rw c.from_residual.ensures (incomplete c.requires c.part_of-part.ensures c.in_err-plan.ensures)

pub joined-requires-clause-messages_le_most_messages : goal.joined-requires-clause-messages_le_most_messages
joined-requires-clause-messages_le_most_messages c = omega (arith, c.messages_of.ensures, ((kept-faultless _ _).0 c.requires.faultless).words)

pub returns : goal.returns
returns c = completed c.requires c.part_of-part.ensures c.joined.ensures.result_len (rw c.messages_of.ensures.0 at c.joined.ensures.joined) c.in_ok-plan.ensures
