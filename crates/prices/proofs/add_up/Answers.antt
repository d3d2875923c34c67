use Rattle.std.proofs.Common.{arith}
use Rattle.prices.proofs.Levels.{level-filled, levels-rows, levels-next, levels-all}
use Rattle.prices.proofs.add_up.Goals as goal

pub loop-n-init : goal.loop-n-init
loop-n-init c = (omega arith, levels-rows c.rows-n.ensures.few (omega arith) (level-filled _ _ (omega arith) (omega arith) c.loop-k.invariant))

pub loop-n-preserved : goal.loop-n-preserved
loop-n-preserved c = (omega arith, levels-next (omega arith) (omega arith) c.halve.ensures c.loop-n.invariant.1)

pub returns : goal.returns
returns c = levels-all c.rows-n.ensures.few (omega arith) c.loop-n.invariant.1
