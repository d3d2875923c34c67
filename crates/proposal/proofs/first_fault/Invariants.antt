-- Invariant: the messages before j that are looked at have no fault, and the row words are theirs; no message before i meets message j.
use Rattle.std.proofs.Common.{ℕ, ◌≡◌, ◌<◌, false}
use Rattle.rules.specs.Tests.{meets}
use Rattle.row_words.specs.RowWords.{RowWords}
use Rattle.proposal.proofs.Walk.{Passed}
use Rattle.proposal.proofs.first_fault.Given as goal

abbrev pub invariant-loop-j : goal.invariant-loop-j
invariant-loop-j l = record { passed : Passed l.partial l.p l.w l.j; words : RowWords l.p l.w l.j l.taken }

abbrev pub invariant-loop-i : goal.invariant-loop-i
invariant-loop-i l = (k : ℕ) → k < l.i → meets l.p l.w k l.j ≡ false
