-- The words taken stand in the buffer, and the place is in the text. Each turn goes on behind a word, so that less of the text is left.
use Rattle.std.proofs.Common.{length, ◌-◌, ◌≤◌}
use Rattle.wordlist.proofs.parse_with.Given as goal

abbrev pub invariant-loop-word : goal.invariant-loop-word
invariant-loop-word l = (l.count ≤ length l.words) × (l.at ≤ length l.text)

abbrev pub decreases-loop-word : goal.decreases-loop-word
decreases-loop-word l = length l.text - l.at
