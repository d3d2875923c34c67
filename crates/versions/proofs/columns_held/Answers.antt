-- The refusal of a column whose kind there is no room for.
use Rattle.std.proofs.Common.{arith, refl, sym, ◌∙◌}
use Rattle.rules.proofs.Faults.{handed, first-clear, first-here}
use Rattle.versions.proofs.columns_held.Goals as goal

pub returns-in_err-refuse_if : goal.returns-in_err-refuse_if
returns-in_err-refuse_if c =
    handed c.from_residual.ensures.1 ∙ first-here c.loop-c.invariant (rw (← c.kind_most-most.ensures, ← c.kind_in.ensures, ← c.in_err-refuse_if.ensures)) (omega arith) refl

pub returns : goal.returns
returns c = sym (first-clear _ _ (λ i l. c.loop-c.invariant i (omega arith)))
