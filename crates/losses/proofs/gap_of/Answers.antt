-- Reference, columns and gaps make up the row, so the subtraction leaves the gaps.
use Rattle.std.proofs.Common.{◌≡◌, arith}
use Rattle.basics.specs.Sums.{sum}
use Rattle.basics.proofs.Sums.{sum-next}
use Rattle.rules.specs.Problem.{columns, width}
use Rattle.losses.proofs.Gaps.{row-parts}
use Rattle.losses.proofs.gap_of.Goals as goal

pub loop-c-init : goal.loop-c-init
unfolding sum
loop-c-init c = record { counted = omega arith; few = omega arith }

pub loop-c-preserved : goal.loop-c-preserved
loop-c-preserved c = record {
  counted = omega (arith, sum-next c.loop-c.c (width c.args.p.now), c.width_of-covered.ensures.is);
  few = omega arith;
}

pub overflow_sub-result : goal.overflow_sub-result
overflow_sub-result c =
    let all : c.loop-c.c ≡ columns c.args.p.now = omega arith in
    let counted = rw all at c.loop-c.invariant.counted in
    omega (arith, row-parts c.requires)

pub returns : goal.returns
returns c =
    let all : c.loop-c.c ≡ columns c.args.p.now = omega arith in
    let counted = rw all at c.loop-c.invariant.counted in
    (omega (arith, row-parts c.requires), omega arith)
