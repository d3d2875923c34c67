use Rattle.prices.proofs.Cheaper.{low-next}
use Rattle.prices.proofs.cheapest.Goals as goal

pub loop-r-preserved : goal.loop-r-preserved
loop-r-preserved c =
    let inv = c.loop-c.invariant in
    (inv.0, inv.1, low-next _ _ _ _ c.in-None.ensures.steps.0 inv.3 inv.2)
