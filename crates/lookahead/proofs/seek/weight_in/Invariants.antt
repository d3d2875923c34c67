-- The sum is at most the highest weight times what the word has lost: it loses 1 at least for each cell.
use Rattle.std.proofs.Common.{◌*◌, ◌-◌, ◌≤◌}
use Rattle.prices.specs.Prices.{most_price}
use Rattle.lookahead.proofs.seek.weight_in.Given as goal

abbrev pub invariant-loop-c : goal.invariant-loop-c
invariant-loop-c l = (l.c-iterator.left ≤ l.x) × (l.n ≤ most_price * (l.x - l.c-iterator.left))
