-- Invariant: the columns before c are read, in front of what the buffer held.
use Rattle.basics.specs.Runs.{Turned}
use Rattle.problem.specs.Layout.{column_of}
use Rattle.reader.proofs.read_columns.Given as goal

abbrev pub invariant-loop-c : goal.invariant-loop-c
invariant-loop-c l = Turned (column_of l.layout) l.size 3 l.part l.initial.words l.c l.words
