-- t is at most every solution and at most its own load, and it is 1 or the load of an earlier t: so each turn adds a frame at least, and the turns that are left are the measure.
use Rattle.std.proofs.Common.{◌≤◌}
use Rattle.response.specs.Parts.{longest_frame}
use Rattle.response.proofs.Spans.{Spanning}
use Rattle.response.proofs.Turns.{left}
use Rattle.response.proofs.busy.busy_of.Given as goal

abbrev pub invariant-loop-t : goal.invariant-loop-t
invariant-loop-t l = record {
  spanning : Spanning l.events l.i l.blocked l.frame l.t;
  blocked-most : l.blocked ≤ longest_frame;
  frame-most : l.frame ≤ longest_frame;
}

abbrev pub decreases-loop-t : goal.decreases-loop-t
decreases-loop-t l = left l.t
