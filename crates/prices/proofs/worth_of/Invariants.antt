-- The sum so far is at least what the cells of the rows passed are worth, and for each row below a bound, so that it does not wrap.
use Rattle.std.proofs.Common.{◌*◌, ◌≤◌}
use Rattle.prices.specs.Prices.{worth, row_worth}
use Rattle.prices.proofs.worth_of.Given as goal

abbrev pub invariant-loop-i : goal.invariant-loop-i
invariant-loop-i l = (l.t ≤ row_worth * l.i) × (worth l.prices l.i l.u ≤ l.t)
