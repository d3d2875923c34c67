-- The table of cells starts empty and is filled; its tally has three of the figures. 64 rows of 32 widths are below 2^27, so all fit 32 bits.
use Rattle.std.proofs.Common.{◌*◌, arith, ap₂}
use Rattle.cells.proofs.Marks.{table_none}
use Rattle.losses.specs.Parts.{used-part, window-part, empty-part}
use Rattle.losses.proofs.Tallies.{table_fits, tally-small, tally-is}
use Rattle.losses.proofs.figures.Goals as goal

pub fill-requires-clause-table : goal.fill-requires-clause-table
fill-requires-clause-table c = table_none c.args.p.now c.args.w.now c.requires.formed

pub all_cells-tally-requires : goal.all_cells-tally-requires
all_cells-tally-requires c = (c.requires.formed, table_fits c.requires c.fill.ensures)

pub overflow_cast-result-2 : goal.overflow_cast-result-2
overflow_cast-result-2 c = let small = tally-small c.requires c.fill.ensures c.all_cells-tally.ensures in omega arith

pub overflow_cast-result-3 : goal.overflow_cast-result-3
overflow_cast-result-3 c = let small = tally-small c.requires c.fill.ensures c.all_cells-tally.ensures in omega arith

pub overflow_cast-result-4 : goal.overflow_cast-result-4
overflow_cast-result-4 c = let small = tally-small c.requires c.fill.ensures c.all_cells-tally.ensures in omega arith

pub returns : goal.returns
returns c =
    let cells = tally-is c.requires c.fill.ensures c.all_cells-tally.ensures in
    record {
      reference-is = ap₂ ◌*◌ c.rows_of-rows.ensures.0 c.ref_len_of.ensures.0;
      used-is = cells used-part;
      in-window-is = cells window-part;
      empty-is = cells empty-part;
      gaps-is = ap₂ ◌*◌ c.rows_of-rows.ensures.0 c.gap_of.ensures.0;
    }
