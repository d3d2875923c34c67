-- The filled table says what is due, row by row, and that fits where there is room.
use Rattle.std.proofs.Common.{sym, arith, mul-le-mul}
use Rattle.rules.specs.Problem.{most_rows}
use Rattle.cells.proofs.Marks.{table_none}
use Rattle.bus_log.specs.Span.{most_span}
use Rattle.bus_log.proofs.Results.{rows_fit, rows_written}
use Rattle.bus_log.proofs.Tables.{table-numbered}
use Rattle.bus_log.proofs.due_accepted.Goals as goal

-- a table that is all 0 is that of no message
pub fill-requires-clause-table : goal.fill-requires-clause-table
fill-requires-clause-table c = table_none c.args.p.now c.args.w.now c.requires.0.formed

pub write_rows-requires : goal.write_rows-requires
write_rows-requires c =
    let few = mul-le-mul {n₂ = most_span} {m₂ = most_rows} c.requires.1 c.rows_of.ensures.2 in
    record {
      numbered = (table-numbered c.requires.0 c.fill.ensures, omega arith);
      table_in_bounds = rows_fit c.requires.0 c.fill.ensures c.args.span c.args.list.now c.cycle_sends.ensures.0 (sym c.in_ok-refuse_if.ensures) c.rows_of.ensures.0;
    }

pub returns : goal.returns
returns c =
    rows_written c.requires.0 c.fill.ensures c.args.span c.args.list.now c.cycle_sends.ensures.0 (sym c.in_ok-refuse_if.ensures) c.rows_of.ensures.0 c.write_rows.ensures
