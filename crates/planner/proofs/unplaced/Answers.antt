-- A message passed is set, and nothing else changes; the loop ends with the last.
use Rattle.std.proofs.Common.{arith}
use Rattle.planner.proofs.Room.{from-none, from_more, from_all}
use Rattle.planner.proofs.unplaced.Goals as goal

pub loop-j-init : goal.loop-j-init
loop-j-init c = from-none _

pub loop-j-preserved : goal.loop-j-preserved
loop-j-preserved c = from_more (omega arith) c.loop-j.invariant c.with_bit-left.ensures

pub returns : goal.returns
returns c = from_all (omega arith) c.loop-j.invariant
