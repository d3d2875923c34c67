-- Invariant: the columns before c have no fault, and `from` is where column c may start. A column without a fault ends where the next may start.
use Rattle.std.proofs.Common.{ℕ, ◌≡◌, ◌<◌, Ok}
use Rattle.rules.specs.Problem.{earliest}
use Rattle.rules.specs.Rules.{column_fault}
use Rattle.wellformed.proofs.columns_fault.Given as goal

abbrev pub invariant-loop-c : goal.invariant-loop-c
invariant-loop-c l = record { from_is : l.from ≡ earliest l.words l.c; clear : (i : ℕ) → i < l.c → column_fault l.words i ≡ Ok tt }
