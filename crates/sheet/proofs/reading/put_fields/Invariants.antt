-- The words put stand in the buffer.
use Rattle.std.proofs.Common.{◌≤◌, length}
use Rattle.sheet.proofs.reading.put_fields.Given as goal

abbrev pub invariant-loop-field : goal.invariant-loop-field
invariant-loop-field l = l.at ≤ length l.words
