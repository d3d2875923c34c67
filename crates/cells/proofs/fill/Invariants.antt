-- Invariant: the table tells of the messages before j. In none of the cells of message j an earlier message starts.
use Rattle.cells.specs.Table.{Table}
use Rattle.cells.proofs.fill.Given as goal

abbrev pub invariant-loop-j : goal.invariant-loop-j
invariant-loop-j l = Table l.p l.w l.j l.table
