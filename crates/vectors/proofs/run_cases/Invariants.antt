-- The cases that agree are among those that were run.
use Rattle.std.proofs.Common.{◌≤◌}
use Rattle.vectors.proofs.run_cases.Given as goal

abbrev pub invariant-loop-at : goal.invariant-loop-at
invariant-loop-at g l = l.agree ≤ l.at
