-- A refusal is handed on as it is, and the tests stand in the order of the rule.
use Rattle.std.proofs.Common.{◌∙◌}
use Rattle.rules.specs.Rules.{words_fault}
use Rattle.rules.proofs.Faults.{handed}
use Rattle.wellformed.proofs.words_fault.Goals as goal

pub returns-in_err-columns_fault : goal.returns-in_err-columns_fault
unfolding words_fault
returns-in_err-columns_fault c = handed c.from_residual.ensures.1 ∙ rw (← c.requires.columns-are, ← c.in_err-columns_fault.ensures)

pub returns-in_err-messages_fault : goal.returns-in_err-messages_fault
unfolding words_fault
returns-in_err-messages_fault c =
    handed c.from_residual-in_err-messages_fault.ensures.1
    ∙ rw (← c.requires.columns-are, ← c.requires.messages-are, ← c.in_ok-columns_fault.ensures, ← c.in_err-messages_fault.ensures)

pub returns : goal.returns
unfolding words_fault
returns c =
    rw (← c.requires.columns-are, ← c.requires.messages-are, ← c.in_ok-columns_fault.ensures, ← c.in_ok-messages_fault.ensures) c.nodes_fault.ensures
