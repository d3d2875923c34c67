-- The next message stands behind those before.
use Rattle.std.proofs.Common.{refl}
use Rattle.crowd.proofs.Dropping.{counts-none, counts-more}
use Rattle.crowd.proofs.counted.Goals as goal

pub loop-j-init : goal.loop-j-init
loop-j-init c = rw c.none-group.ensures (refl, counts-none)

pub loop-j-preserved : goal.loop-j-preserved
loop-j-preserved c = rw c.add.ensures (counts-more c.loop-j.invariant.0 c.loop-j.invariant.1)
