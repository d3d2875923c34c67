-- The message of the turn is given what the plan has for its identifier.
use Rattle.std.proofs.Common.{arith, length-set}
use Rattle.carried.proofs.Carrying.{carried-more}
use Rattle.carried.proofs.carried.Goals as goal
use Rattle.carried.proofs.carried.Goals.{in-Some, in-None}

pub loop-j-preserved : goal.loop-j-preserved
loop-j-preserved c = let inv = c.loop-j.invariant in
    let e = c.identifier_of.ensures.0 in
    elim c.match-placement_of.branch [
      | in-Some w ↦ rw (w.k-is, w.put.ensures) (record { long = simp length-set inv.long; passed = carried-more (omega arith) inv.passed (rw e at w.in-Some.ensures) })
      | in-None w ↦ rw (w.k-is, w.put-in-None.ensures) (record { long = simp length-set inv.long; passed = carried-more (omega arith) inv.passed (rw e at w.in-None.ensures) })
    ]
