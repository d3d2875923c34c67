-- For each row passed at most what the cells of one row weigh, so that the sum does not wrap.
use Rattle.std.proofs.Common.{◌*◌, ◌≤◌}
use Rattle.prices.specs.Prices.{row_worth}
use Rattle.lookahead.proofs.seek.weight_of.Given as goal

abbrev pub invariant-loop-i : goal.invariant-loop-i
invariant-loop-i l = l.n ≤ row_worth * l.i
