-- Invariant: `count` is 1 and what the messages before j need at the node; each needs at most 2.
use Rattle.std.proofs.Common.{◌≡◌, ◌+◌, ◌*◌, ◌≤◌}
use Rattle.basics.specs.Sums.{sum}
use Rattle.wellformed.proofs.Words.{needed}
use Rattle.wellformed.proofs.triggers_of.Given as goal

abbrev pub invariant-loop-j : goal.invariant-loop-j
invariant-loop-j l = record { counted : l.count ≡ 1 + sum l.j (needed l.words l.node); few : l.count ≤ 1 + 2 * l.j }
