-- Row i is written apart and compared with what follows in the log: it agrees wholly, and the log is right up to the next row, or it differs, and so the log does.
use Rattle.std.proofs.Common.{ℕ, ◌%◌, ◌≡◌, refl, ap, ◌∙◌, length, arith}
use Rattle.basics.specs.Runs.{run}
use Rattle.rules.specs.Problem.{rows as row_count}
use Rattle.bus_log.specs.Parts.{with_all}
use Rattle.bus_log.specs.Rows.{words_of_row}
use Rattle.bus_log.proofs.Differing.{same-all}
use Rattle.bus_log.proofs.FirstCycle.{same_none, rest-even, row-is, next-row, row-differs}
use Rattle.bus_log.proofs.Rows.{row-even, run-even, row-most, rows-most}
use Rattle.bus_log.proofs.hold_rows.Goals as goal

pub loop-i-init : goal.loop-i-init
unfolding run
loop-i-init c = record { reached = omega arith; same = same_none }

pub write_row-n-requires-clause-i_in_bounds : goal.write_row-n-requires-clause-i_in_bounds
write_row-n-requires-clause-i_in_bounds c = omega (arith, row-most c.args.p.now c.args.table.now c.loop-i.i c.requires.0.formed.header.columns-most)

pub agreeing-same-requires : goal.agreeing-same-requires
agreeing-same-requires c =
    let row = words_of_row c.args.p.now c.args.table.now in
    let even = row-even c.args.p.now c.args.table.now in
    let before : c.loop-i.at % 2 ≡ 0 = omega (arith, run-even row even c.loop-i.i) in
    (rw (row-is row c.write_row-n.ensures) (even c.loop-i.i), rest-even c.loop-i.at c.args.log.now c.requires.1 before c.loop-i.invariant.same.in-log, omega arith)

pub overflow_cast-result : goal.overflow_cast-result
overflow_cast-result c =
    let few = c.requires.0.formed.header.columns-most in
    omega (arith, rows-most c.args.p.now c.args.table.now c.loop-i.i few, row-most c.args.p.now c.args.table.now c.loop-i.i few)

pub returns-then-same-n : goal.returns-then-same-n
returns-then-same-n c =
    let inv = c.loop-i.invariant in
    row-differs (words_of_row c.args.p.now c.args.table.now) (row-even c.args.p.now c.args.table.now) c.requires.1 inv.reached inv.same
    (omega arith) c.write_row-n.ensures c.agreeing-same.ensures c.if-same-n.true refl refl refl

pub loop-i-preserved : goal.loop-i-preserved
loop-i-preserved c =
    let inv = c.loop-i.invariant in
    let next = next-row (words_of_row c.args.p.now c.args.table.now) (row-even c.args.p.now c.args.table.now) c.requires.1 inv.reached inv.same
    (omega arith) c.write_row-n.ensures c.agreeing-same.ensures c.if-same-n.false in
    record { reached = next.0; same = next.1 }

pub returns : goal.returns
returns c =
    let inv = c.loop-i.invariant in
    let all : c.loop-i.i ≡ row_count c.args.p.now = omega arith in
    let count = inv.reached ∙ ap (λ (k : ℕ). length (run k (words_of_row c.args.p.now c.args.table.now))) all in
    with_all _ count (same-all count inv.same)
