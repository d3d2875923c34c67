-- Invariant: the cells of the rows before i are marked and no other.
use Rattle.std.proofs.Common.{ℕ}
use Rattle.basics.proofs.Strides.{Striding}
use Rattle.cells.specs.Cells.{cell}
use Rattle.cells.specs.Table.{Becomes}
use Rattle.cells.proofs.mark.Given as goal

abbrev pub invariant-loop-i : goal.invariant-loop-i
invariant-loop-i l = Striding (Becomes l.number) (λ (i : ℕ). cell i l.c) l.r l.step l.rows l.i l.initial.table l.table
