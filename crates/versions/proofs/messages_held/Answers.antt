-- The refusal of a message whose identifier there is no room for.
use Rattle.std.proofs.Common.{arith, refl, sym, ◌∙◌}
use Rattle.rules.proofs.Faults.{handed, first-clear, first-here}
use Rattle.versions.proofs.messages_held.Goals as goal

pub returns-in_err-refuse_if : goal.returns-in_err-refuse_if
returns-in_err-refuse_if c =
    handed c.from_residual.ensures.1
    ∙ first-here c.loop-j.invariant (rw (← c.identifier_most-most.ensures, ← c.field_in-identifier.ensures, ← c.in_err-refuse_if.ensures)) (omega arith) refl

pub returns : goal.returns
returns c = sym (first-clear _ _ (λ i l. c.loop-j.invariant i (omega arith)))
