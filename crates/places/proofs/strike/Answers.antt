use Rattle.std.proofs.Common.{sym, ◌∙◌, arith}
use native.Mathlib.Nat.{mod-lt, mod-eq_of_lt, add-mod_right}
use borrow.Author.Tests.{eqb-false}
use Rattle.places.proofs.Tables.{made_more, made-skip}
use Rattle.places.proofs.Striking.{shared, strike-start, strike-next}
use Rattle.places.proofs.strike.Goals as goal
use Rattle.places.proofs.strike.Goals.{then-has_bit+else-loop-i-test, then-has_bit+then-loop-i-test+else-common-step, else-has_bit}

-- both repeats are known, and so is the smaller
pub loop-i-init : goal.loop-i-init
loop-i-init c =
    let both = shared c.step.ensures.often c.step-step.ensures.often c.min-common.ensures in
    (mod-eq_of_lt (mod-lt c.args.r both.some), strike-start _ _ _ _ _ both _)

pub loop-i-preserved : goal.loop-i-preserved
loop-i-preserved c =
    let both = shared c.step.ensures.often c.step-step.ensures.often c.min-common.ensures in (
      add-mod_right _ _ ∙ c.loop-i.invariant.0,
      strike-next _ _ _ _ _ both _ _ (omega arith) c.loop-i.invariant.0 c.table_at-k.ensures.0 (omega arith) c.clear_bit.ensures c.loop-i.invariant.1,
    )

pub loop-j-preserved : goal.loop-j-preserved
loop-j-preserved c =
    elim c.if-has_bit.branch [
      | then-has_bit+else-loop-i-test w ↦
          let row = w.loop-i.invariant.1 in
          rw w.table-is
          (made_more _ _ _ _ c.messages-j-end.ensures.few (omega arith) (omega arith) (omega arith) (record { here = λ i l h. row.here i l; others = row.others }) c.loop-j.invariant)
      | then-has_bit+then-loop-i-test+else-common-step w ↦
          let both = shared w.step.ensures.often w.step-step.ensures.often w.min-common.ensures in
          let row = strike-next _ _ _ _ _ both _ _ (omega arith) w.loop-i.invariant.0 w.table_at-k.ensures.0 (omega arith) w.clear_bit.ensures w.loop-i.invariant.1 in
          rw w.table-is
          (made_more _ _ _ _ c.messages-j-end.ensures.few (omega arith) (omega arith) (omega arith) (record { here = λ i l h. row.here i l; others = row.others }) c.loop-j.invariant)
      | else-has_bit w ↦ rw w.table-is (made-skip _ _ _ (λ i x y h. absurd (eqb-false _ _ (sym c.has_bit.ensures ∙ w.if-has_bit.false) h)) c.loop-j.invariant)
    ]
