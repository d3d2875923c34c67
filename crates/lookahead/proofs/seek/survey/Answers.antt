use Rattle.std.proofs.Common.{arith}
use Rattle.lookahead.proofs.Owing.{owed_none, owed-in, owed-out}
use Rattle.lookahead.proofs.seek.survey.Goals as goal
use Rattle.lookahead.proofs.seek.survey.Goals.{then-has_bit, else-has_bit}

pub loop-j-init : goal.loop-j-init
loop-j-init c = owed_none _ _ _ _ _

pub loop-j-preserved : goal.loop-j-preserved
loop-j-preserved c =
    let inv = c.loop-j.invariant in
    elim c.if-has_bit.branch [
      | then-has_bit w ↦ rw (w.least-is, w.cost-is)
          (owed-in inv c.has_bit.ensures w.if-has_bit.true (omega arith) w.step-step.ensures.often.is w.cheapest-offer.ensures.0 w.from-cost.ensures)
      | else-has_bit w ↦ rw (w.least-is, w.cost-is) (owed-out inv c.has_bit.ensures w.if-has_bit.false)
    ]
