-- The words of the messages passed, and of the base rows passed of this one, have the places that can be paid for: each step writes one word more, and none of
-- those again.
use Rattle.places.proofs.Tables.{Row, Made}
use Rattle.prices.proofs.Paying.{PaidAt}
use Rattle.prices.proofs.narrow.Given as goal

abbrev pub invariant-loop-r : goal.invariant-loop-r
invariant-loop-r l = Row (PaidAt l.p l.sums l.left l.least l.cost l.worth l.j) l.j l.r l.initial.table l.table

abbrev pub invariant-loop-j : goal.invariant-loop-j
invariant-loop-j l = Made l.p (PaidAt l.p l.sums l.left l.least l.cost l.worth) l.j l.initial.table l.table
