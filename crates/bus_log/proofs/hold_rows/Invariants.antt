-- Invariant: the rows before i are in the log, up to `at`.
use Rattle.std.proofs.Common.{◌≡◌, length}
use Rattle.basics.specs.Runs.{run}
use Rattle.rules.specs.Problem.{rows as row_count}
use Rattle.bus_log.specs.Rows.{words_of_row}
use Rattle.bus_log.proofs.Differing.{Same}
use Rattle.bus_log.proofs.hold_rows.Given as goal

abbrev pub invariant-loop-i : goal.invariant-loop-i
invariant-loop-i l = record {
  reached : l.at ≡ length (run l.i (words_of_row l.p l.table));
  same : Same (run (row_count l.p) (words_of_row l.p l.table)) l.log l.at;
}
