-- All cells fit, so the cell of column c has room in the rest of the list, which is lent for it.
use Rattle.std.proofs.Common.{arith}
use Rattle.basics.specs.Runs.{run}
use Rattle.basics.proofs.Written.{begins-none}
use Rattle.bus_log.specs.Rows.{cell_of}
use Rattle.bus_log.proofs.Rows.{cell-read, piece-room, piece-written}
use Rattle.bus_log.proofs.write_cells.Goals as goal

pub loop-c-init : goal.loop-c-init
unfolding run
loop-c-init c = begins-none _

pub write_cell-at-requires-clause-time_in_bounds : goal.write_cell-at-requires-clause-time_in_bounds
write_cell-at-requires-clause-time_in_bounds c =
    let a = c.args in
    rw (cell-read a.p.now a.table.now a.i c.loop-c.c c.cycle_of.ensures.0 c.rows_of.ensures.0 c.cell_of.ensures.0 c.from-number.ensures c.start_of.ensures.is)
    (piece-room (cell_of a.p.now a.table.now a.i) c.loop-c.invariant (omega arith) c.requires.i_in_bounds)

pub loop-c-preserved : goal.loop-c-preserved
loop-c-preserved c =
    let a = c.args in
    piece-written (cell_of a.p.now a.table.now a.i) c.loop-c.invariant (omega arith) c.requires.i_in_bounds
    (rw (cell-read a.p.now a.table.now a.i c.loop-c.c c.cycle_of.ensures.0 c.rows_of.ensures.0 c.cell_of.ensures.0 c.from-number.ensures c.start_of.ensures.is) at c.write_cell-at.ensures)
