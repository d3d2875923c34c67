-- The header, the columns and the records of the slots before s are written.
use Rattle.std.proofs.Common.{length}
use Rattle.rest.proofs.Copying.{Begun}
use Rattle.rest.proofs.part_of.Given as goal

abbrev pub invariant-loop-s : goal.invariant-loop-s
invariant-loop-s l = Begun l.p l.group (length l.group) l.s l.buffer
