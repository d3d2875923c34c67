-- Of the numbers passed those are left that are not j.
use Rattle.crowd.specs.Walk.{Without}
use Rattle.crowd.proofs.without.Given as goal

abbrev pub invariant-loop-i : goal.invariant-loop-i
invariant-loop-i l = Without l.group l.i-index l.j l.fewer
