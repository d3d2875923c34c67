-- One more turn adds the next.
use Rattle.response.proofs.Figures.{sum-none, sum_more}
use Rattle.response.proofs.demand.demand_of.Goals as goal

pub loop-j-init : goal.loop-j-init
loop-j-init c = sum-none

pub loop-j-preserved : goal.loop-j-preserved
loop-j-preserved c = sum_more c.loop-j.invariant c.interference_of-total.ensures
