-- The columns first; the messages where they found nothing.
use Rattle.std.proofs.Common.{◌∙◌}
use Rattle.rules.proofs.Faults.{handed}
use Rattle.problem.specs.Wrong.{held_fault}
use Rattle.versions.proofs.held_fault.Goals as goal

pub returns-in_err-columns_held : goal.returns-in_err-columns_held
unfolding held_fault
returns-in_err-columns_held c = handed c.from_residual.ensures.1 ∙ rw (← c.requires.columns-are, ← c.in_err-columns_held.ensures)

pub returns : goal.returns
unfolding held_fault
returns c = rw (← c.requires.columns-are, ← c.requires.messages-are, ← c.in_ok-columns_held.ensures) c.messages_held.ensures
