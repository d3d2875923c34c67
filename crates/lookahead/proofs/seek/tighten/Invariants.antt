-- Each round leaves a table that lost nothing without a fault, and the cells of its places: what is taken out costs more than they are worth,
-- and nothing is asked of the prices.
use Rattle.lookahead.proofs.Tightening.{Tight}
use Rattle.lookahead.proofs.seek.tighten.Given as goal

abbrev pub invariant-loop : goal.invariant-loop
invariant-loop l = Tight l.p l.left l.initial.table l.table l.u
