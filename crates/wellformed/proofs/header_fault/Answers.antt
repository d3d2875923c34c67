-- Each number is refused by its own test, and the tests stand in file order, as in the rule.
use Rattle.std.proofs.Common.{◌∙◌}
use Rattle.rules.specs.Rules.{header_fault}
use Rattle.rules.proofs.Faults.{handed}
use Rattle.wellformed.proofs.header_fault.Goals as goal

pub returns-in_err-header_number : goal.returns-in_err-header_number
unfolding header_fault
returns-in_err-header_number c =
    handed c.from_residual.ensures.1
    ∙ rw (← c.is_row_count.ensures, ← c.in_err-header_number.ensures)

pub returns-in_err-header_number-2 : goal.returns-in_err-header_number-2
unfolding header_fault
returns-in_err-header_number-2 c =
    handed c.from_residual-in_err-header_number-2.ensures.1
    ∙ rw (← c.is_row_count.ensures, ← c.in_ok-header_number.ensures, ← c.is_outside.ensures, ← c.in_err-header_number-2.ensures)

pub returns-in_err-header_number-3 : goal.returns-in_err-header_number-3
unfolding header_fault
returns-in_err-header_number-3 c =
    handed c.from_residual-in_err-header_number-3.ensures.1
    ∙ rw (← c.is_row_count.ensures, ← c.in_ok-header_number.ensures, ← c.is_outside.ensures, ← c.in_ok-header_number-2.ensures, ← c.is_outside-2.ensures, ← c.in_err-header_number-3.ensures)

pub returns-in_err-header_number-4 : goal.returns-in_err-header_number-4
unfolding header_fault
returns-in_err-header_number-4 c =
    handed c.from_residual-in_err-header_number-4.ensures.1
    ∙ rw (← c.is_row_count.ensures, ← c.in_ok-header_number.ensures, ← c.is_outside.ensures, ← c.in_ok-header_number-2.ensures, ← c.is_outside-2.ensures, ← c.in_ok-header_number-3.ensures, ← c.in_err-header_number-4.ensures)

pub returns-in_err-header_number-5 : goal.returns-in_err-header_number-5
unfolding header_fault
returns-in_err-header_number-5 c =
    handed c.from_residual-in_err-header_number-5.ensures.1
    ∙ rw (← c.is_row_count.ensures, ← c.in_ok-header_number.ensures, ← c.is_outside.ensures, ← c.in_ok-header_number-2.ensures, ← c.is_outside-2.ensures, ← c.in_ok-header_number-3.ensures, ← c.in_ok-header_number-4.ensures, ← c.is_outside-3.ensures, ← c.in_err-header_number-5.ensures)

pub returns-in_err-header_number-6 : goal.returns-in_err-header_number-6
unfolding header_fault
returns-in_err-header_number-6 c =
    handed c.from_residual-in_err-header_number-6.ensures.1
    ∙ rw (← c.is_row_count.ensures, ← c.in_ok-header_number.ensures, ← c.is_outside.ensures, ← c.in_ok-header_number-2.ensures, ← c.is_outside-2.ensures, ← c.in_ok-header_number-3.ensures, ← c.in_ok-header_number-4.ensures, ← c.is_outside-3.ensures, ← c.in_ok-header_number-5.ensures, ← c.is_outside-4.ensures, ← c.in_err-header_number-6.ensures)

pub returns : goal.returns
unfolding header_fault
returns c =
    rw (← c.is_row_count.ensures, ← c.in_ok-header_number.ensures, ← c.is_outside.ensures, ← c.in_ok-header_number-2.ensures, ← c.is_outside-2.ensures, ← c.in_ok-header_number-3.ensures, ← c.in_ok-header_number-4.ensures, ← c.is_outside-3.ensures, ← c.in_ok-header_number-5.ensures, ← c.is_outside-4.ensures, ← c.in_ok-header_number-6.ensures)
    c.header_number-7.ensures
