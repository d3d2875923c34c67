-- The message of slot s is neither kept nor that of an earlier slot.
use Rattle.std.proofs.Common.{arith, length-set, length, ap}
use Rattle.rest.proofs.Joining.{joined-more}
use Rattle.rest.proofs.joined.Goals as goal

pub loop-s-preserved : goal.loop-s-preserved
loop-s-preserved c =
    let inv = c.loop-s.invariant in
    let same = c.numbers-j-items.ensures.numbers in
    rw (c.put.ensures, same) (record { long = simp length-set inv.long; joined = joined-more c.requires.free (omega (arith, ap length same)) (omega arith) inv.long inv.joined })
