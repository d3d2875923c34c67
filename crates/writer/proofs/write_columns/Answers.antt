-- All records are inside the buffer, and each step puts one more piece behind those that are written.
use Rattle.std.proofs.Common.{◌*◌, ◌≤◌, ◌∙◌, arith, length, sym}
use Rattle.basics.proofs.Runs.{turned_none, turned_more, turned-parts, turned-all}
use Rattle.problem.proofs.Layouts.{step, column-length}
use Rattle.writer.proofs.write_columns.Goals as goal

pub loop-c-init : goal.loop-c-init
loop-c-init c = turned_none

pub overflow_mul-to : goal.overflow_mul-to
overflow_mul-to c =
    let inside : c.column_size-size.result * c.args.k ≤ length c.args.out.now = rw c.column_size-size.ensures.0 c.requires.1 in
    omega (arith, (step c.column_size-size.result c.loop-c.c c.args.k (length c.args.out.now) (omega (arith, c.column_size-size.ensures.1)) (omega arith) (omega arith) inside).0)

pub slice_bounds-write_column-end-in-loop-c : goal.slice_bounds-write_column-end-in-loop-c
slice_bounds-write_column-end-in-loop-c c =
    let inside : c.column_size-size.result * c.args.k ≤ length c.args.out.now = rw c.column_size-size.ensures.0 c.requires.1 in
    omega (arith, (step c.column_size-size.result c.loop-c.c c.args.k (length c.args.out.now) (omega (arith, c.column_size-size.ensures.1)) (omega arith) (omega arith) inside).1)

pub write_column-requires : goal.write_column-requires
write_column-requires c =
    let inside : c.column_size-size.result * c.args.k ≤ length c.args.out.now = rw c.column_size-size.ensures.0 c.requires.1 in
    let parts = turned-parts c.loop-c.c c.args.k c.loop-c.invariant (omega arith) (omega arith) inside in
    (parts.0, parts.1 ∙ c.column_size-size.ensures.0)

pub loop-c-preserved : goal.loop-c-preserved
loop-c-preserved c =
    turned_more (λ r. column-length c.args.layout r ∙ sym c.column_size-size.ensures.0) c.loop-c.c c.loop-c.invariant c.write_column.ensures c.write_column.auto.out

pub returns : goal.returns
returns c = rw (← c.column_size-size.ensures.0) (turned-all c.loop-c.invariant (omega arith))
