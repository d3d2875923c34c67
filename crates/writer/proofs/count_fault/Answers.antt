-- The tests in their order: each is made where the ones before it have passed.
use Rattle.std.proofs.Common.{refl, rules, sym, ◌∙◌}
use Rattle.rules.proofs.Faults.{handed}
use Rattle.problem.specs.Wrong.{count_fault}
use Rattle.problem.proofs.Callers.{header-few}
use Rattle.writer.proofs.count_fault.Goals as goal

pub returns-in_err-refuse_if : goal.returns-in_err-refuse_if
unfolding count_fault
returns-in_err-refuse_if c = handed c.from_residual.ensures.1 ∙ rw (← c.in_err-refuse_if.ensures)

pub returns-in_err-header_fault : goal.returns-in_err-header_fault
unfolding count_fault
returns-in_err-header_fault c = handed c.from_residual-in_err-header_fault.ensures.1 ∙ rw (← c.in_ok-refuse_if.ensures, ← c.in_err-header_fault.ensures)

pub layout_by-requires : goal.layout_by-requires
layout_by-requires c =
    let few = header-few _ (search rules) (sym c.in_ok-header_fault.ensures) refl refl in
    (refl, refl, few.0, few.1)

pub said_for-requires : goal.said_for-requires
said_for-requires c =
    let few = header-few _ (search rules) (sym c.in_ok-header_fault.ensures) refl refl in
    (c.column_words-said.ensures.2, few.0, few.1)

pub returns : goal.returns
unfolding count_fault
returns c =
    rw (← c.in_ok-refuse_if.ensures, ← c.in_ok-header_fault.ensures) (c.refuse_if-2.ensures ∙ rw (c.said_for.ensures, c.column_words-said.ensures.0, c.layout_by.ensures))
