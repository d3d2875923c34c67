-- Each turn goes on behind a line, which has a byte at least.
use Rattle.std.proofs.Common.{length, ◌-◌, ◌≤◌}
use Rattle.sheet.proofs.record_where.Given as goal

abbrev pub invariant-loop-from : goal.invariant-loop-from
invariant-loop-from g l = goal.F-IsAlwaysCallable g l.test × (l.from ≤ length l.text)

abbrev pub decreases-loop-from : goal.decreases-loop-from
decreases-loop-from g l = length l.text - l.from
