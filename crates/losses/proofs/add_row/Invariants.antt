-- Invariant: the tally is that of the rows before with the row's cells before c added.
use Rattle.losses.specs.Parts.{RowAdded}
use Rattle.losses.proofs.add_row.Given as goal

abbrev pub invariant-loop-c : goal.invariant-loop-c
invariant-loop-c l = RowAdded l.p l.table l.i l.c l.initial.tally l.tally
