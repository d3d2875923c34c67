-- What the loop knows: what has no fault and is within the table that came in is within what is left of it. A place that leaves the others no room goes, and so do
-- those that the prices rule out; a message without a place shows that nothing is within. The number of messages to be tried falls with each call.
use Rattle.places.specs.Places.{Narrowed}
use Rattle.lookahead.specs.Probe.{Picked}
use Rattle.lookahead.proofs.+possible.Given as goal

abbrev pub decreases-possible : goal.decreases-possible
decreases-possible l = l.deep

abbrev pub invariant-loop-tries : goal.invariant-loop-tries
invariant-loop-tries l = Picked l.p l.left l.picked × Narrowed l.p l.left l.fn.table l.table
