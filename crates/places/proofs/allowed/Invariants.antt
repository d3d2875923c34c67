-- The words of the messages passed, and of the base rows passed of this one, have the columns allowed there: each step writes one word more, and none of those again.
use Rattle.places.specs.Places.{Allowed}
use Rattle.places.proofs.Tables.{Row, Made}
use Rattle.places.proofs.allowed.Given as goal

abbrev pub invariant-loop-r : goal.invariant-loop-r
invariant-loop-r l = Row (λ i x. Allowed l.p l.taken l.j i) l.j l.r l.initial.table l.table

abbrev pub invariant-loop-j : goal.invariant-loop-j
invariant-loop-j l = Made l.p (λ k i x. Allowed l.p l.taken k i) l.j l.initial.table l.table
