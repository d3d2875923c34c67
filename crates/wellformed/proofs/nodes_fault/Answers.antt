-- The refusal of a node that needs too many triggers.
use Rattle.std.proofs.Common.{arith, sym, refl, ◌∙◌}
use Rattle.rules.proofs.Faults.{handed, first-clear, one-more-clear, first-here}
use Rattle.rules.specs.Rules.{overloaded}
use Rattle.wellformed.proofs.nodes_fault.Goals as goal

pub returns-in_err-refuse_if : goal.returns-in_err-refuse_if
unfolding overloaded
returns-in_err-refuse_if c =
    handed c.from_residual.ensures.1 ∙ first-here c.loop-n.invariant (rw (← c.triggers_of.ensures, ← c.in_err-refuse_if.ensures)) (omega arith) refl

pub loop-n-preserved : goal.loop-n-preserved
unfolding overloaded
loop-n-preserved c = one-more-clear c.loop-n.invariant (rw (← c.triggers_of.ensures, ← c.in_ok-refuse_if.ensures)) refl

pub returns : goal.returns
returns c = sym (first-clear _ _ (λ i l. c.loop-n.invariant i (omega arith)))
