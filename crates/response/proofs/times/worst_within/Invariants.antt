-- What was found in the first q instances, and that w is at most every solution of instance q's queue and at most that queue, or a frame below it: a w that comes again is
-- the queuing time. Each turn adds a frame, so the turns that are left are the measure.
use Rattle.std.proofs.Common.{◌≤◌}
use Rattle.response.proofs.Waiting.{Timing, Waiting, Found}
use Rattle.response.proofs.Turns.{left}
use Rattle.response.proofs.times.worst_within.Given as goal

abbrev pub invariant-loop-q : goal.invariant-loop-q
invariant-loop-q l = record {
  timing : Timing l.events l.i l.span l.frame l.period l.own l.instances;
  waiting : Waiting l.events l.i l.span l.q l.ahead l.released l.w;
  found : Found l.events l.i l.span l.q l.limit l.worst;
  inside : l.q ≤ l.instances;
}

abbrev pub decreases-loop-q : goal.decreases-loop-q
decreases-loop-q l = left l.w
