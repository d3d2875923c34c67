-- No message passed has the identifier.
use Rattle.std.proofs.Common.{ℕ, ◌<◌, ◌≡◌}
use Rattle.rules.specs.Problem.{identifier as identifier_at}
use Rattle.carried.proofs.message_of.Given as goal

abbrev pub invariant-loop-i : goal.invariant-loop-i
invariant-loop-i l = (h : ℕ) → h < l.i → ¬ (identifier_at l.p h ≡ l.identifier)
