-- The reference message's words come first, so the rest of the list, lent for the cells, has room for them.
use Rattle.std.proofs.Common.{arith}
use Rattle.basics.proofs.Written.{begins-more, room-more}
use Rattle.bus_log.specs.Rows.{cells_of}
use Rattle.bus_log.proofs.Rows.{row_first, reference-room, reference-begins, begin-most}
use Rattle.bus_log.proofs.write_row.Goals as goal

pub put_pair-requires : goal.put_pair-requires
put_pair-requires c =
    let a = c.args in
    (reference-room a.p.now a.table.now a.i a.list.now c.requires.i_in_bounds, omega (arith, begin-most c.requires.numbered.1 c.cycle_of.ensures.2), omega arith)

pub write_cells-requires-clause-i_in_bounds : goal.write_cells-requires-clause-i_in_bounds
write_cells-requires-clause-i_in_bounds c =
    let a = c.args in
    let reference =
    reference-begins a.p.now a.i c.cycle_of.ensures.0 c.ref_id_of.ensures.0 c.put_pair.ensures (reference-room a.p.now a.table.now a.i a.list.now c.requires.i_in_bounds) in
    room-more reference (cells_of a.p.now a.table.now a.i) (row_first a.p.now a.table.now a.i) c.requires.i_in_bounds

pub returns : goal.returns
returns c =
    let a = c.args in
    let reference =
    reference-begins a.p.now a.i c.cycle_of.ensures.0 c.ref_id_of.ensures.0 c.put_pair.ensures (reference-room a.p.now a.table.now a.i a.list.now c.requires.i_in_bounds) in
    (begins-more reference (cells_of a.p.now a.table.now a.i) (row_first a.p.now a.table.now a.i) c.requires.i_in_bounds c.write_cells.ensures).put
