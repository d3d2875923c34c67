use Rattle.std.proofs.Common.{◌<◌, length, arith, get_or-set_same, get_or-set_other, length-set, below_more}
use Rattle.places.proofs.plannable.Plannable.of.Goals as goal

pub loop-j-preserved : goal.loop-j-preserved
loop-j-preserved c =
    let inv = c.loop-j.invariant in
    let room : c.loop-j.j < length c.loop-j.steps = omega arith in (
      simp length-set inv.0,
      below_more _ _ (λ k l. rw (get_or-set_other c.loop-j.steps c.loop-j.j k _ 0 (omega arith)) (inv.1 k l)) (rw (get_or-set_same c.loop-j.steps c.loop-j.j _ 0 room) c.repeat_of.ensures),
    )
