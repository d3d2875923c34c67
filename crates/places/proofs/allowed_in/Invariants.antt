-- The word has exactly the columns, among those passed, in which the message may stand: the next one is set where the test finds nothing wrong.
use Rattle.places.proofs.Covering.{AllowedBelow}
use Rattle.places.proofs.allowed_in.Given as goal

abbrev pub invariant-loop-c : goal.invariant-loop-c
invariant-loop-c l = AllowedBelow l.p l.j l.r l.c l.x
