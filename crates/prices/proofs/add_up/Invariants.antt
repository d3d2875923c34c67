-- First the prices are copied, word by word: they are the sums for the rows. Then there are sums for each power of two from that of n words up to the rows: each step
-- makes those for the power before, and writes none of the others.
use Rattle.std.proofs.Common.{◌≤◌}
use Rattle.rules.specs.Problem.{rows}
use Rattle.prices.specs.Prices.{most_cells}
use Rattle.prices.proofs.Levels.{Filled, Levels}
use Rattle.prices.proofs.add_up.Given as goal

abbrev pub invariant-loop-k : goal.invariant-loop-k
invariant-loop-k l = Filled l.prices l.n l.k l.sums

abbrev pub invariant-loop-n : goal.invariant-loop-n
invariant-loop-n l = (l.n ≤ most_cells) × Levels l.prices (rows l.p) l.n l.sums

abbrev pub decreases-loop-n : goal.decreases-loop-n
decreases-loop-n l = l.n
