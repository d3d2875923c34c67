-- The sum of the first j, each at most most_interference, so that no sum wraps.
use Rattle.std.proofs.Common.{◌*◌}
use Rattle.basics.specs.Sums.{sum}
use Rattle.response.specs.Times.{interference}
use Rattle.response.specs.Parts.{most_interference}
use Rattle.response.proofs.Figures.{Gathered}
use Rattle.response.proofs.demand.demand_of.Given as goal

abbrev pub invariant-loop-j : goal.invariant-loop-j
invariant-loop-j l = Gathered sum (interference l.events l.i l.span) l.j (most_interference * l.j) l.total
