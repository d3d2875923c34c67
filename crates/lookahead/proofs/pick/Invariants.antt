-- The best so far is a message of the set, or none: only one whose digit is set becomes the best.
use Rattle.lookahead.specs.Probe.{Picked}
use Rattle.lookahead.proofs.pick.Given as goal

abbrev pub invariant-loop-j : goal.invariant-loop-j
invariant-loop-j l = Picked l.p l.left l.best
