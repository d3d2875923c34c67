-- The test of the words finds something, or they are whole events, whose first fault is left.
use Rattle.std.proofs.Common.{sym, ◌∙◌}
use Rattle.std.proofs.lemmas.Result.{err_from_is_err_and}
use Rattle.rules.proofs.Faults.{clear-guard}
use Rattle.response.proofs.Faults.{events-each}
use Rattle.response.specs.Events.{events_fault}
use Rattle.response.proofs.events.events_fault.Goals as goal

pub returns-in_err-refuse_if : goal.returns-in_err-refuse_if
unfolding events_fault
returns-in_err-refuse_if c =
    let p = err_from_is_err_and c.from_residual.result c.from_residual.ensures.1 in
    let found = sym c.refuse_if.ensures ∙ c.in_err-refuse_if.was in
    rw (p.1, p.2, ← c.words_wrong.ensures, found)

pub returns : goal.returns
returns c = events-each _ (sym c.words_wrong.ensures ∙ clear-guard _ _ (sym c.refuse_if.ensures ∙ c.in_ok-refuse_if.was)) c.first_fault.ensures
