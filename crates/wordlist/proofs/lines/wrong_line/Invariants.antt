-- Each turn has a line of a byte at least, so that there are no more lines and no more records than bytes.
use Rattle.std.proofs.Common.{◌+◌, ◌≤◌, length}
use Rattle.std.specs.Iterator.Adapters.{enumerate_source, enumerate_count}
use Rattle.std.specs.Slice.Iter.{split_inclusive_rest}
use Rattle.wordlist.proofs.lines.wrong_line.Given as goal

abbrev pub invariant-loop-i : goal.invariant-loop-i
invariant-loop-i l =
    (goal.iterator-loop-i).can_next l.i-iterator
    × (goal.iterator-loop-i).is_finite l.i-iterator
    × (enumerate_count l.i-iterator + length (split_inclusive_rest (enumerate_source l.i-iterator)) ≤ length l.text)
    × (l.records ≤ enumerate_count l.i-iterator)
