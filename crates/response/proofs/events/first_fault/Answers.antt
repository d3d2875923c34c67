-- The event at which the loop is left breaks a rule, as none before it does.
use Rattle.std.proofs.Common.{sym, ◌∙◌, arith}
use Rattle.std.proofs.lemmas.Result.{err_from_is_err_and}
use Rattle.rules.proofs.Faults.{first-at, first-clear}
use Rattle.response.proofs.events.first_fault.Goals as goal

pub returns-in_err-refuse_if : goal.returns-in_err-refuse_if
returns-in_err-refuse_if c =
    let p = err_from_is_err_and c.from_residual.result c.from_residual.ensures.1 in
    rw (p.1, p.2)
    (sym (first-at _ _ c.loop-j.j _ (omega arith) c.loop-j.invariant (rw (← c.event_wrong.ensures) (sym c.refuse_if.ensures ∙ c.in_err-refuse_if.was))))

pub returns : goal.returns
returns c = sym (first-clear _ _ (λ k l. c.loop-j.invariant k (omega arith)))
