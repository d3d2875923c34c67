-- Invariant: the version has room for the columns before c.
use Rattle.std.proofs.Common.{ℕ, ◌≡◌, ◌<◌, Ok}
use Rattle.problem.specs.Wrong.{column_unheld}
use Rattle.versions.proofs.columns_held.Given as goal

abbrev pub invariant-loop-c : goal.invariant-loop-c
invariant-loop-c l = (i : ℕ) → i < l.c → column_unheld l.fn.layout l.p i ≡ Ok tt
