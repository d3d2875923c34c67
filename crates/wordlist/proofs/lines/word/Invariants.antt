-- The place is in the text.
use Rattle.std.proofs.Common.{length, ◌≤◌}
use Rattle.wordlist.proofs.lines.word.Given as goal

abbrev pub invariant-loop : goal.invariant-loop
invariant-loop l = l.at ≤ length l.text
