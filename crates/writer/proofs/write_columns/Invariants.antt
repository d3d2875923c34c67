-- Invariant: the columns before c are written, in front of what the buffer held.
use Rattle.basics.specs.Runs.{Turned}
use Rattle.problem.specs.Layout.{column_bytes}
use Rattle.writer.proofs.write_columns.Given as goal

abbrev pub invariant-loop-c : goal.invariant-loop-c
invariant-loop-c l = Turned (column_bytes l.layout) 3 l.size l.part l.initial.out l.c l.out
