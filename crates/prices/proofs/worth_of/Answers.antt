use Rattle.std.proofs.Common.{arith}
use Rattle.prices.proofs.Worths.{worth-none, worth-next}
use Rattle.prices.proofs.worth_of.Goals as goal

pub loop-i-init : goal.loop-i-init
loop-i-init c = (omega arith, worth-none _ _)

pub loop-i-preserved : goal.loop-i-preserved
loop-i-preserved c = (omega arith, worth-next _ _ _ c.worth_in-t.ensures.0 c.loop-i.invariant.1)
