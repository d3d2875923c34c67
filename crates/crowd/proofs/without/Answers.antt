-- The next number is j, or it stands behind those before.
use Rattle.crowd.proofs.Dropping.{without-same, without_more}
use Rattle.crowd.proofs.without.Goals as goal
use Rattle.crowd.proofs.without.Goals.{then-i-j, else-i-j}

pub loop-i-preserved : goal.loop-i-preserved
loop-i-preserved c =
    let same = c.numbers-i-items.ensures.numbers in
    elim c.if-i-j.branch [
      | then-i-j w ↦ rw (w.fewer-is, w.add.ensures, same) (without_more c.loop-i.invariant (rw same at w.if-i-j.true))
      | else-i-j w ↦ rw w.fewer-is (without-same c.loop-i.invariant (rw same at w.if-i-j.false))
    ]
