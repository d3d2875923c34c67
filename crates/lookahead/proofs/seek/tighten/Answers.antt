use Rattle.lookahead.proofs.Tightening.{tight-paid, tight-joint}
use Rattle.lookahead.proofs.seek.tighten.Goals as goal
use Rattle.lookahead.proofs.seek.tighten.Goals.{then-gap-nearest+then-narrow+else-gap-eq0, then-gap-nearest+else-narrow, else-gap-nearest}

pub returns-then-gap-eq0 : goal.returns-then-gap-eq0
returns-then-gap-eq0 c =
    record { narrowed = (tight-paid c.survey-found.ensures.few c.add_up.ensures c.worth_of-worth.ensures.0 c.survey-found.ensures.owed c.narrow.ensures.paid c.loop.invariant).keeps }

-- what a round leaves: the table without the places that are too dear and its cells taken anew, or these as they were, or both as they were
pub loop-preserved : goal.loop-preserved
loop-preserved c =
    let few = c.survey-found.ensures.few in
    let owed = c.survey-found.ensures.owed in
    let worth = c.worth_of-worth.ensures.0 in
    elim c.if-gap-nearest.branch [
      | then-gap-nearest+then-narrow+else-gap-eq0 w ↦ rw (w.table-is, w.u-is) (tight-joint w.joint-u-then-narrow.ensures (tight-paid few c.add_up.ensures worth owed w.narrow.ensures.paid c.loop.invariant))
      | then-gap-nearest+else-narrow w ↦ rw (w.table-is, w.u-is) (tight-paid few c.add_up.ensures worth owed w.narrow.ensures.paid c.loop.invariant)
      | else-gap-nearest w ↦ rw (w.table-is, w.u-is) c.loop.invariant
    ]
