-- Invariant: no message before i has the identifier of message j.
use Rattle.std.proofs.Common.{ℕ, ◌≡◌, ◌<◌, false}
use lib.Dec.{eqb}
use Rattle.rules.specs.Problem.{identifier}
use Rattle.wellformed.proofs.is_repeated.Given as goal

abbrev pub invariant-loop-i : goal.invariant-loop-i
invariant-loop-i l = (h : ℕ) → h < l.i → eqb (identifier l.words h) (identifier l.words l.j) ≡ false
