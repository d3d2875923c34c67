-- All columns are inside the two parts, and each step puts one more piece behind those that are recast.
use Rattle.std.proofs.Common.{ℕ, ◌+◌, ◌-◌, ◌*◌, ap, ◌∙◌, arith, length, take, drop}
use Rattle.basics.specs.Runs.{front}
use Rattle.basics.proofs.Runs.{length_front, turned_none, turned_more, turned-parts, turned-all}
use Rattle.problem.proofs.Layouts.{step}
use Rattle.problem.proofs.recast.recast_columns.Goals as goal

pub loop-c-init : goal.loop-c-init
loop-c-init c = turned_none

pub overflow_mul-from : goal.overflow_mul-from
overflow_mul-from c = omega (arith, (step c.args.a c.loop-c.c c.args.k (length c.args.part.now) (omega arith) (omega arith) (omega arith) (omega arith)).0)

pub overflow_mul-to : goal.overflow_mul-to
overflow_mul-to c = omega (arith, (step c.args.b c.loop-c.c c.args.k (length c.args.out.now) (omega arith) (omega arith) (omega arith) (omega arith)).0)

pub slice_bounds-recast_column-end : goal.slice_bounds-recast_column-end
slice_bounds-recast_column-end c = (step c.args.a c.loop-c.c c.args.k (length c.args.part.now) (omega arith) (omega arith) (omega arith) (omega arith)).1

pub recast_column-requires : goal.recast_column-requires
recast_column-requires c =
    let parts = turned-parts c.loop-c.c c.args.k c.loop-c.invariant (omega arith) (omega arith) (omega arith) in
    (omega (arith, parts.0), omega (arith, parts.1), omega (arith, parts.1))

pub loop-c-preserved : goal.loop-c-preserved
loop-c-preserved c =
    let parts = turned-parts c.loop-c.c c.args.k c.loop-c.invariant (omega arith) (omega arith) (omega arith) in
    let piece = take (c.args.a * c.loop-c.c + c.args.a - c.args.a * c.loop-c.c) (drop (c.args.a * c.loop-c.c) c.args.part.now) in
    turned_more (length_front c.args.b) c.loop-c.c c.loop-c.invariant (c.recast_column.ensures ∙ ap (λ (n : ℕ). front n piece) parts.1) c.recast_column.auto.to

pub returns : goal.returns
returns c = turned-all c.loop-c.invariant (omega arith)
