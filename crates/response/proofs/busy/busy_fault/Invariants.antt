-- The first j words are the busy periods of the first j events: so an event without one is the first such, and at the end all are noted.
use Rattle.response.specs.Parts.{Spans}
use Rattle.response.proofs.busy.busy_fault.Given as goal

abbrev pub invariant-loop-j : goal.invariant-loop-j
invariant-loop-j l = Spans l.events l.spans l.j
