-- A number is at most 64, so a byte has room for it.
use Rattle.std.proofs.Common.{arith}
use Rattle.proposal.proofs.Sound.{words}
use Rattle.cells.proofs.Starts.{at}
use Rattle.cells.proofs.Marks.{table_step}
use Rattle.cells.proofs.fill.Goals as goal

pub column_of-requires : goal.column_of-requires
column_of-requires c = omega (arith, words c.requires.accepted)

pub row_of-requires : goal.row_of-requires
row_of-requires c = omega (arith, words c.requires.accepted)

pub mark-requires : goal.mark-requires
mark-requires c =
    let placed = (at c.requires.accepted c.loop-j.j (omega arith)).placed in
    let most = c.requires.accepted.formed.header.columns-most in
    (omega arith, omega arith, omega arith, omega arith, omega arith)

pub loop-j-preserved : goal.loop-j-preserved
loop-j-preserved c =
    table_step c.requires.accepted (omega arith) c.loop-j.invariant
    c.column_of.ensures.0 c.row_of.ensures.0 c.repeat_of.ensures.is
    c.rows_of-rows.ensures.0 (omega arith) c.mark.ensures
