use Rattle.std.proofs.Common.{sym, ◌∙◌, arith}
use borrow.Author.Tests.{eqb-false}
use Rattle.places.proofs.Tables.{made_more, made-skip}
use Rattle.places.proofs.copy.Goals as goal
use Rattle.places.proofs.copy.Goals.{then-has_bit+else-loop-r-test, else-has_bit}

pub loop-j-preserved : goal.loop-j-preserved
loop-j-preserved c =
    elim c.if-has_bit.branch [
      | then-has_bit+else-loop-r-test w ↦ rw w.to-is (made_more _ _ _ _ c.messages-j-end.ensures.few (omega arith) (omega arith) (omega arith) w.loop-r.invariant c.loop-j.invariant)
      | else-has_bit w ↦ rw w.to-is (made-skip _ _ _ (λ i x y h. absurd (eqb-false _ _ (sym c.has_bit.ensures ∙ w.if-has_bit.false) h)) c.loop-j.invariant)
    ]
