-- The words put stand in the buffer.
use Rattle.std.proofs.Common.{◌≤◌, length}
use Rattle.sheet.proofs.reading.put_records.Given as goal

abbrev pub invariant-loop-line : goal.invariant-loop-line
invariant-loop-line l =
    (goal.iterator-loop-line).can_next l.line-iterator
    × (goal.iterator-loop-line).is_finite l.line-iterator
    × (l.next ≤ length l.words)
