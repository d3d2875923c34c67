-- Invariant: the version has room for the messages before j.
use Rattle.std.proofs.Common.{ℕ, ◌≡◌, ◌<◌, Ok}
use Rattle.problem.specs.Wrong.{message_unheld}
use Rattle.versions.proofs.messages_held.Given as goal

abbrev pub invariant-loop-j : goal.invariant-loop-j
invariant-loop-j l = (i : ℕ) → i < l.j → message_unheld l.fn.layout l.p i ≡ Ok tt
