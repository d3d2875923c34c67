-- The first i words are the times of the first i events, and so many of them are 0 as were counted.
use Rattle.std.proofs.Common.{ℕ, ◌<◌, ◌≤◌, ◌≡◌, get_or}
use Rattle.response.specs.Times.{Written}
use Rattle.response.specs.Promise.{zeros}
use Rattle.response.proofs.times.fill.Given as goal

abbrev pub invariant-loop-i : goal.invariant-loop-i
invariant-loop-i l = record {
  each : (k : ℕ) → k < l.i → Written l.events k (get_or l.time-items k 0);
  counted : l.misses ≡ zeros l.time-items l.i;
  few : l.misses ≤ l.i;
}
