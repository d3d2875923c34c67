-- What the messages passed pay: the next one, if it is of the set, pays its cheapest place, which is stored under its number and touches no earlier one.
use Rattle.prices.specs.Prices.{Owed}
use Rattle.lookahead.proofs.seek.survey.Given as goal

abbrev pub invariant-loop-j : goal.invariant-loop-j
invariant-loop-j l = Owed l.p l.table l.sums l.left l.j l.least l.cost
