-- The words of the rows passed are 0: the first that is not ends the loop.
use Rattle.std.proofs.Common.{◌≡◌, ◌<◌, ℕ, get_or}
use Rattle.places.specs.Places.{table_at}
use Rattle.places.proofs.first_row.Given as goal

abbrev pub invariant-loop-r : goal.invariant-loop-r
invariant-loop-r l = (i : ℕ) → i < l.r → get_or l.table (table_at l.j i) 0 ≡ 0
