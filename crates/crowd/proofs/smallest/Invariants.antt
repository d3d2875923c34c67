-- The messages that are left have no plan together, and each that was asked about and is left is needed for that. What was needed before is needed still, since fewer
-- messages are never harder to plan.
use Rattle.crowd.proofs.Walk.{Walked}
use Rattle.crowd.proofs.smallest.Given as goal

abbrev pub invariant-loop-j : goal.invariant-loop-j
invariant-loop-j l = Walked l.p l.group l.j
