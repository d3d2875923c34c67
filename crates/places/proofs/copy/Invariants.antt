-- The words of the messages passed, and of the base rows passed of this one, are copied: each step writes one word more, and none of those again.
use Rattle.std.proofs.Common.{◌≡◌, get_or}
use Rattle.basics.specs.Bits.{Has}
use Rattle.places.specs.Places.{table_at}
use Rattle.places.proofs.Tables.{Row, Made}
use Rattle.places.proofs.copy.Given as goal

abbrev pub invariant-loop-r : goal.invariant-loop-r
invariant-loop-r l = Row (λ i x z. Has l.left l.j → z ≡ get_or l.table (table_at l.j i) 0) l.j l.r l.initial.to l.to

abbrev pub invariant-loop-j : goal.invariant-loop-j
invariant-loop-j l = Made l.p (λ k i x z. Has l.left k → z ≡ get_or l.table (table_at k i) 0) l.j l.initial.to l.to
