-- Invariant: the messages before j have no fault.
use Rattle.std.proofs.Common.{ℕ, ◌≡◌, ◌<◌, Ok}
use Rattle.rules.specs.Rules.{message_fault}
use Rattle.wellformed.proofs.messages_fault.Given as goal

abbrev pub invariant-loop-j : goal.invariant-loop-j
invariant-loop-j l = (i : ℕ) → i < l.j → message_fault l.words i ≡ Ok tt
