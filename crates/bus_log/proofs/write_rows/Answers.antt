-- All rows fit, so row i has room in the rest of the list, which is lent for it.
use Rattle.basics.specs.Runs.{run}
use Rattle.basics.proofs.Written.{begins-none}
use Rattle.bus_log.specs.Rows.{words_of_row}
use Rattle.bus_log.proofs.Rows.{piece-room, piece-written}
use Rattle.bus_log.proofs.write_rows.Goals as goal

pub loop-i-init : goal.loop-i-init
unfolding run
loop-i-init c = begins-none _

pub write_row-at-requires-clause-i_in_bounds : goal.write_row-at-requires-clause-i_in_bounds
write_row-at-requires-clause-i_in_bounds c =
    piece-room (words_of_row c.args.p.now c.args.table.now) c.loop-i.invariant c.loop-i-test.true c.requires.table_in_bounds

pub loop-i-preserved : goal.loop-i-preserved
loop-i-preserved c =
    piece-written (words_of_row c.args.p.now c.args.table.now) c.loop-i.invariant c.loop-i-test.true c.requires.table_in_bounds c.write_row-at.ensures
