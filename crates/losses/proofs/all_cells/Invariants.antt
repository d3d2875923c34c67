-- Invariant: the tally is that of the rows before i.
use Rattle.losses.specs.Parts.{Tallied}
use Rattle.losses.proofs.all_cells.Given as goal

abbrev pub invariant-loop-i : goal.invariant-loop-i
invariant-loop-i l = Tallied l.p l.table l.i l.tally
