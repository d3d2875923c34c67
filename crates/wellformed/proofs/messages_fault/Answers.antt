-- A message's own refusal is the first of its two tests' that fails.
use Rattle.std.proofs.Common.{arith, sym, refl, ◌∙◌}
use Rattle.rules.proofs.Faults.{handed, first-clear, one-more-clear, first-here}
use Rattle.wellformed.proofs.Words.{has-message}
use Rattle.wellformed.proofs.messages_fault.Goals as goal

pub identity_wrong-requires : goal.identity_wrong-requires
identity_wrong-requires c = has-message c.requires (omega arith)

pub timing_wrong-requires : goal.timing_wrong-requires
timing_wrong-requires c = has-message c.requires (omega arith)

pub returns-in_err-refuse_if : goal.returns-in_err-refuse_if
returns-in_err-refuse_if c =
    handed c.from_residual.ensures.1 ∙ first-here c.loop-j.invariant (rw (← c.identity_wrong.ensures, ← c.in_err-refuse_if.ensures)) (omega arith) refl

pub returns-in_err-refuse_if-2 : goal.returns-in_err-refuse_if-2
returns-in_err-refuse_if-2 c =
    handed c.from_residual-in_err-refuse_if-2.ensures.1
    ∙ first-here c.loop-j.invariant (rw (← c.identity_wrong.ensures, ← c.in_ok-refuse_if.ensures, ← c.timing_wrong.ensures, ← c.in_err-refuse_if-2.ensures)) (omega arith) refl

pub loop-j-preserved : goal.loop-j-preserved
loop-j-preserved c =
    one-more-clear c.loop-j.invariant (rw (← c.identity_wrong.ensures, ← c.in_ok-refuse_if.ensures, ← c.timing_wrong.ensures, ← c.in_ok-refuse_if-2.ensures)) refl

pub returns : goal.returns
returns c = sym (first-clear _ _ (λ i l. c.loop-j.invariant i (omega arith)))
