-- The words passed are made of those behind, which stay: no step writes from 2 n on.
use Rattle.std.proofs.Common.{◌≡◌, ℕ, ◌+◌, ◌*◌, ◌<◌, ◌≤◌, get_or}
use Rattle.prices.proofs.halve.Given as goal

abbrev pub invariant-loop-k : goal.invariant-loop-k
invariant-loop-k l = record {
  here : (i : ℕ) → i < l.k → get_or l.sums (l.n + i) 0 ≤ get_or l.initial.sums (2 * l.n + i) 0 + get_or l.initial.sums (3 * l.n + i) 0;
  kept : (i : ℕ) → 2 * l.n ≤ i → get_or l.sums i 0 ≡ get_or l.initial.sums i 0;
}
