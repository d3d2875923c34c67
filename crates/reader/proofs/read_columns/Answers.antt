-- All records are inside the part, and each step puts one more piece behind those that are read.
use Rattle.std.proofs.Common.{refl, arith, ◌*◌, ◌≤◌, ◌∙◌, length}
use Rattle.basics.proofs.Runs.{turned_none, turned_more, turned-parts, turned-all}
use Rattle.problem.proofs.Layouts.{step}
use Rattle.reader.proofs.read_columns.Goals as goal

pub loop-c-init : goal.loop-c-init
loop-c-init c = turned_none

pub overflow_mul-from : goal.overflow_mul-from
overflow_mul-from c =
    let inside : c.column_size-size.result * c.args.k ≤ length c.args.part.now = rw c.column_size-size.ensures.0 c.requires.0 in
    omega (arith, (step c.column_size-size.result c.loop-c.c c.args.k (length c.args.part.now) (omega (arith, c.column_size-size.ensures.1)) (omega arith) (omega arith) inside).0)

pub slice_bounds-read_column-end : goal.slice_bounds-read_column-end
slice_bounds-read_column-end c =
    let inside : c.column_size-size.result * c.args.k ≤ length c.args.part.now = rw c.column_size-size.ensures.0 c.requires.0 in
    (step c.column_size-size.result c.loop-c.c c.args.k (length c.args.part.now) (omega (arith, c.column_size-size.ensures.1)) (omega arith) (omega arith) inside).1

pub read_column-requires : goal.read_column-requires
read_column-requires c =
    let inside : c.column_size-size.result * c.args.k ≤ length c.args.part.now = rw c.column_size-size.ensures.0 c.requires.0 in
    let parts = turned-parts c.loop-c.c c.args.k c.loop-c.invariant (omega arith) inside (omega arith) in
    (parts.0 ∙ c.column_size-size.ensures.0, parts.1)

pub loop-c-preserved : goal.loop-c-preserved
loop-c-preserved c = turned_more (λ r. refl) c.loop-c.c c.loop-c.invariant c.read_column.ensures c.read_column.auto.words

pub returns : goal.returns
returns c = rw (← c.column_size-size.ensures.0) (turned-all c.loop-c.invariant (omega arith))
