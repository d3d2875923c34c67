-- Each turn goes on behind a word, so that less of the text is left; no more words are counted than bytes are passed.
use Rattle.std.proofs.Common.{length, ◌-◌, ◌≤◌}
use Rattle.wordlist.proofs.lines.count_of.Given as goal

abbrev pub invariant-loop-word : goal.invariant-loop-word
invariant-loop-word l = (l.at ≤ length l.text) × (l.count ≤ l.at)

abbrev pub decreases-loop-word : goal.decreases-loop-word
decreases-loop-word l = length l.text - l.at
