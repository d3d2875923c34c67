use Rattle.std.proofs.Common.{arith}
use Rattle.prices.proofs.Worths.{counted_next, counted-all}
use Rattle.prices.proofs.worth_in.Goals as goal

pub loop-c-preserved : goal.loop-c-preserved
loop-c-preserved c = (c.loop-c.invariant.0, counted_next _ _ c.cell_at.ensures.0 c.from-t.ensures (omega arith) c.in-Some.ensures.steps c.loop-c.invariant.1)

pub returns : goal.returns
returns c =
    let inv = c.loop-c.invariant in
    (counted-all _ _ c.in-None.ensures.steps.0 inv.1, let m = inv.1.most in omega arith)
