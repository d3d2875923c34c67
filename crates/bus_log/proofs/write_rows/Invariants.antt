-- Invariant: the sends of the rows before i stand at the front of the list, and end at `at`.
use Rattle.basics.specs.Runs.{run}
use Rattle.basics.proofs.Written.{Begins}
use Rattle.bus_log.specs.Rows.{words_of_row}
use Rattle.bus_log.proofs.write_rows.Given as goal

abbrev pub invariant-loop-i : goal.invariant-loop-i
invariant-loop-i l = Begins (run l.i (words_of_row l.p l.table)) l.initial.list l.list l.at
