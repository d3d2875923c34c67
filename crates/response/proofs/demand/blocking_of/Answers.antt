-- One more turn takes the larger of what was found and the next.
use Rattle.response.proofs.Figures.{largest-none, largest-more}
use Rattle.response.proofs.demand.blocking_of.Goals as goal

pub loop-j-init : goal.loop-j-init
loop-j-init c = largest-none

pub loop-j-preserved : goal.loop-j-preserved
loop-j-preserved c = largest-more c.loop-j.invariant c.blocked_by.ensures c.max-most.ensures
