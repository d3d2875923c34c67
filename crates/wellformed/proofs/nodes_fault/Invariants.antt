-- Invariant: the nodes before n need no more triggers than they may have.
use Rattle.std.proofs.Common.{ℕ, ◌≡◌, ◌<◌, Ok}
use Rattle.rules.specs.Rules.{node_fault}
use Rattle.wellformed.proofs.nodes_fault.Given as goal

abbrev pub invariant-loop-n : goal.invariant-loop-n
invariant-loop-n l = (i : ℕ) → i < l.n → node_fault l.words i ≡ Ok tt
