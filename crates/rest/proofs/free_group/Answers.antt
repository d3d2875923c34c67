-- A message more that is not kept stands behind the others, for whom there is room: no more are free than are planned.
use Rattle.std.proofs.Common.{arith, sym, ◌∙◌, ◌+◌}
use Rattle.rest.proofs.Walk.{walked_none, walked-kept, walked-free, next-free, free-rises}
use Rattle.rest.proofs.free_group.Goals as goal
use Rattle.rest.proofs.free_group.Goals.{then-not-keeps, else-not-keeps}

pub loop-j-init : goal.loop-j-init
loop-j-init c = rw c.none-group.ensures (walked_none _)

pub add-requires : goal.add-requires
add-requires c =
    let k = c.args.kept.now in
    omega (arith, next-free k c.loop-j.j (sym c.keeps.ensures ∙ c.if-not-keeps.true), free-rises k (c.loop-j.j + 1) c.args.messages (omega arith))

pub loop-j-preserved : goal.loop-j-preserved
loop-j-preserved c =
    elim c.if-not-keeps.branch [
      | then-not-keeps w ↦ rw (w.group-is, w.add.ensures) (walked-free c.loop-j.invariant (sym c.keeps.ensures ∙ w.if-not-keeps.true))
      | else-not-keeps w ↦ rw w.group-is (walked-kept c.loop-j.invariant (sym c.keeps.ensures ∙ w.if-not-keeps.false))
    ]
