-- The group has those of the messages passed that have no kept placement.
use Rattle.rest.proofs.Walk.{Walked}
use Rattle.rest.proofs.free_group.Given as goal

abbrev pub invariant-loop-j : goal.invariant-loop-j
invariant-loop-j l = Walked l.kept l.j l.group
