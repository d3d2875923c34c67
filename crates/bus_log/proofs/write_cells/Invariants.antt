-- Invariant: the words of the cells before column c stand at the front of the list, and end at `at`.
use Rattle.basics.specs.Runs.{run}
use Rattle.basics.proofs.Written.{Begins}
use Rattle.bus_log.specs.Rows.{cell_of}
use Rattle.bus_log.proofs.write_cells.Given as goal

abbrev pub invariant-loop-c : goal.invariant-loop-c
invariant-loop-c l = Begins (run l.c (cell_of l.p l.table l.i)) l.initial.list l.list l.at
