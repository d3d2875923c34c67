-- The largest of the first j, none of which is above the longest frame.
use Rattle.basics.specs.Sums.{largest}
use Rattle.response.specs.Times.{blocked_by}
use Rattle.response.specs.Parts.{longest_frame}
use Rattle.response.proofs.Figures.{Gathered}
use Rattle.response.proofs.demand.blocking_of.Given as goal

abbrev pub invariant-loop-j : goal.invariant-loop-j
invariant-loop-j l = Gathered largest (blocked_by l.events l.i) l.j longest_frame l.most
