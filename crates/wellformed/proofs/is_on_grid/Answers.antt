use Rattle.std.proofs.Common.{arith}
use Rattle.wellformed.proofs.Words.{grid-found, grid-none}
use Rattle.wellformed.proofs.is_on_grid.Goals as goal

pub returns-then-power-from : goal.returns-then-power-from
returns-then-power-from c = grid-found _ _ _ c.loop-k.k c.pow-power.result (omega arith) c.pow-power.ensures (rw (← c.from.ensures, ← c.from-in-loop-k.ensures, ← c.from-in-loop-k-2.ensures) c.if-power-from.true)

pub returns : goal.returns
returns c = grid-none _ _ _ (λ i l. c.loop-k.invariant i (omega arith))
