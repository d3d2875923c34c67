-- What the columns of x are worth is at most the sum so far and what those are worth that are left: each step takes one column out of these and adds its price.
use Rattle.std.proofs.Common.{◌<◌}
use Rattle.prices.proofs.Worths.{Counted}
use Rattle.prices.proofs.worth_in.Given as goal

abbrev pub invariant-loop-c : goal.invariant-loop-c
invariant-loop-c l = (l.x < 4294967296) × Counted l.prices l.i l.x l.t l.c-iterator.left
