-- What is read is the number of the cell. The tally stays small, since a row adds at most 32 widths.
use Rattle.std.proofs.Common.{arith}
use Rattle.losses.proofs.Tallies.{row-none, row_more, row_small, held-read}
use Rattle.losses.proofs.add_row.Goals as goal

pub loop-c-init : goal.loop-c-init
loop-c-init c = row-none

pub add_cell-requires : goal.add_cell-requires
add_cell-requires c =
    let formed = c.requires.well_formed.0 in
    let fits = c.requires.well_formed.1 in
    let small = row_small formed fits (omega arith) (omega arith) c.requires.small c.loop-c.invariant in
    let each = fits.each c.args.i c.loop-c.c (omega arith) (omega arith) in
    let held = held-read c.args.p.now c.args.table.now c.args.i c.loop-c.c c.held_for.ensures c.from-number.ensures c.cell_of.ensures.0 in
    (small, omega (arith, held, each), omega arith)

pub loop-c-preserved : goal.loop-c-preserved
loop-c-preserved c =
    row_more c.loop-c.invariant (held-read _ _ _ _ c.held_for.ensures c.from-number.ensures c.cell_of.ensures.0) c.width_of.ensures.is c.add_cell.ensures
