-- The table tells what is due. A log that differs within the first matrix cycle differs; else what was compared behind it says how far the log is right, and the
-- answer is the pair behind that, or that the log goes on, or that it is clean.
use Rattle.std.proofs.Common.{refl, arith, mul-le-mul}
use Rattle.rules.specs.Problem.{most_rows}
use Rattle.cells.proofs.Marks.{table_none}
use Rattle.bus_log.specs.Against.{clean, differs}
use Rattle.bus_log.proofs.Rest.{first-differs, first-few, all-few, lengths, outcome, answered, handed-on}
use Rattle.bus_log.proofs.Tables.{table-numbered}
use Rattle.bus_log.proofs.Walk.{rows-due}
use Rattle.bus_log.proofs.hold_accepted.Goals as goal

-- a table that is all 0 is that of no message
pub fill-requires-clause-table : goal.fill-requires-clause-table
fill-requires-clause-table c = table_none c.args.p.now c.args.w.now c.requires.0.formed

pub hold_rows-requires : goal.hold_rows-requires
hold_rows-requires c = (table-numbered c.requires.0 c.fill.ensures, c.requires.1)

pub returns-in_err-n : goal.returns-in_err-n
returns-in_err-n c =
    answered refl (rows-due c.requires.0 c.fill.ensures c.args.span)
    (handed-on _ c.from_residual.ensures.1 (first-differs c.requires.0 c.fill.ensures c.args.span c.requires.2 c.requires.3 c.in_err-n.ensures))

pub overflow_mul-all : goal.overflow_mul-all
overflow_mul-all c = omega (arith, all-few c.requires.0 c.fill.ensures c.args.span c.requires.2 c.requires.3 c.in_ok-n.ensures)

pub slice_bounds-agreeing-count : goal.slice_bounds-agreeing-count
slice_bounds-agreeing-count c =
    (lengths c.requires.0 c.fill.ensures c.args.span c.requires.2 c.requires.3 c.in_ok-n.ensures c.requires.1 c.min-reach.ensures).reached

pub offset_bounds-log-n : goal.offset_bounds-log-n
offset_bounds-log-n c = omega (arith, first-few c.requires.0 c.fill.ensures c.args.span c.requires.2 c.requires.3 c.in_ok-n.ensures)

pub slice_bounds-agreeing-start : goal.slice_bounds-agreeing-start
slice_bounds-agreeing-start c =
    (lengths c.requires.0 c.fill.ensures c.args.span c.requires.2 c.requires.3 c.in_ok-n.ensures c.requires.1 c.min-reach.ensures).reached

pub agreeing-more-requires : goal.agreeing-more-requires
agreeing-more-requires c =
    let r = lengths c.requires.0 c.fill.ensures c.args.span c.requires.2 c.requires.3 c.in_ok-n.ensures c.requires.1 c.min-reach.ensures in
    let short = mul-le-mul {n₂ = most_rows} {m₂ = 65535} c.rows_of.ensures.2 c.cycle_of.ensures.2 in
    (c.requires.1, rw r.behind r.even, omega arith)

pub overflow_cast-result : goal.overflow_cast-result
overflow_cast-result c = omega (arith, all-few c.requires.0 c.fill.ensures c.args.span c.requires.2 c.requires.3 c.in_ok-n.ensures)

pub bounds-log-more : goal.bounds-log-more
bounds-log-more c =
    let r = lengths c.requires.0 c.fill.ensures c.args.span c.requires.2 c.requires.3 c.in_ok-n.ensures c.requires.1 c.min-reach.ensures in
    omega (arith, c.agreeing-more.ensures.agreed.in-log, r.behind)

pub overflow_cast-result-then-same-all-2 : goal.overflow_cast-result-then-same-all-2
overflow_cast-result-then-same-all-2 c =
    let out = outcome c.requires.0 c.fill.ensures c.args.span c.requires.2 c.requires.3 c.in_ok-n.ensures c.requires.1 c.min-reach.ensures c.rows_of.ensures.0 c.cycle_of.ensures.0 c.agreeing-more.ensures in
    omega (arith, out.fits c.if-same-all.true)

pub bounds-log-more-then-same-all : goal.bounds-log-more-then-same-all
bounds-log-more-then-same-all c =
    let r = lengths c.requires.0 c.fill.ensures c.args.span c.requires.2 c.requires.3 c.in_ok-n.ensures c.requires.1 c.min-reach.ensures in
    omega (arith, c.agreeing-more.ensures.agreed.in-log, r.behind)

pub returns-then-same-all : goal.returns-then-same-all
returns-then-same-all c =
    let out = outcome c.requires.0 c.fill.ensures c.args.span c.requires.2 c.requires.3 c.in_ok-n.ensures c.requires.1 c.min-reach.ensures c.rows_of.ensures.0 c.cycle_of.ensures.0 c.agreeing-more.ensures in
    answered refl (rows-due c.requires.0 c.fill.ensures c.args.span) (differs _ (out.differs c.if-same-all.true refl refl refl))

pub overflow_cast-result-then-all-log : goal.overflow_cast-result-then-all-log
overflow_cast-result-then-all-log c = omega (arith, all-few c.requires.0 c.fill.ensures c.args.span c.requires.2 c.requires.3 c.in_ok-n.ensures)

pub returns-then-all-log : goal.returns-then-all-log
returns-then-all-log c =
    let out = outcome c.requires.0 c.fill.ensures c.args.span c.requires.2 c.requires.3 c.in_ok-n.ensures c.requires.1 c.min-reach.ensures c.rows_of.ensures.0 c.cycle_of.ensures.0 c.agreeing-more.ensures in
    answered refl (rows-due c.requires.0 c.fill.ensures c.args.span) (differs _ (out.goes_on c.if-same-all.false c.if-all-log.true refl refl refl))

pub returns : goal.returns
returns c =
    let out = outcome c.requires.0 c.fill.ensures c.args.span c.requires.2 c.requires.3 c.in_ok-n.ensures c.requires.1 c.min-reach.ensures c.rows_of.ensures.0 c.cycle_of.ensures.0 c.agreeing-more.ensures in
    answered refl (rows-due c.requires.0 c.fill.ensures c.args.span) (clean (out.clean c.if-same-all.false c.if-all-log.false))
