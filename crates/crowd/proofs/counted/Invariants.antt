-- The messages passed stand in their slots.
use Rattle.std.proofs.Common.{◌≡◌, length}
use Rattle.crowd.specs.Walk.{Counts}
use Rattle.crowd.proofs.counted.Given as goal

abbrev pub invariant-loop-j : goal.invariant-loop-j
invariant-loop-j l = (length l.group ≡ l.j) × Counts l.group l.j
