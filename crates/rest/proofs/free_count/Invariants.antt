-- Of the messages passed those without a kept placement are counted.
use Rattle.std.proofs.Common.{◌≡◌, ◌≤◌}
use Rattle.rest.specs.Free.{free_of}
use Rattle.rest.proofs.free_count.Given as goal

abbrev pub invariant-loop-j : goal.invariant-loop-j
invariant-loop-j l = (l.count ≡ free_of l.kept l.j) × (l.count ≤ l.j)
