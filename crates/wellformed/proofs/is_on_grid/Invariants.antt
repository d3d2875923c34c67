-- Invariant: the period is the cycle times no smaller power that is at most the rows.
use Rattle.std.proofs.Common.{ℕ, ◌≡◌, ◌<◌, ◌*◌, ◌^◌, false, ◌&&◌}
use lib.Dec.{leb, eqb}
use Rattle.wellformed.proofs.is_on_grid.Given as goal

abbrev pub invariant-loop-k : goal.invariant-loop-k
invariant-loop-k l = (i : ℕ) → i < l.k → leb (2 ^ i) l.rows && eqb l.period (l.cycle * 2 ^ i) ≡ false
