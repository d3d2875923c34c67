-- A row more, and after the last of them, or if there is none, no row is left.
use Rattle.std.proofs.Common.{arith, refl, ◌+◌}
use Rattle.row_words.proofs.Marks.{marking-none, marking-more, marking-all}
use Rattle.row_words.proofs.occupy.Goals as goal
use Rattle.row_words.proofs.occupy.Goals.{else-loop-i-test, then-loop-i-test+else-step-rows}

pub loop-i-init : goal.loop-i-init
loop-i-init c = marking-none _ _ _ _ _

pub loop-i-preserved : goal.loop-i-preserved
loop-i-preserved c = let m = c.loop-i.invariant in
    marking-more m (omega arith) (omega arith) (omega (arith, m.marks.long, c.requires.taken_len)) c.with_bit-y.ensures refl

pub returns : goal.returns
returns c =
    let m = c.loop-i.invariant in
    elim c.loop-i-test.branch [
      | else-loop-i-test w ↦ rw w.taken-is (marking-all m (omega arith) (omega arith) (rw w.seen-is at c.has_bit.ensures))
      | then-loop-i-test+else-step-rows w ↦ rw w.taken-is
          (marking-all (marking-more m (omega arith) {next = c.loop-i.i + c.args.step} (omega arith) (omega (arith, m.marks.long, c.requires.taken_len)) w.with_bit-y.ensures refl)
          (omega arith)
          (omega arith)
          (rw w.seen-is at c.has_bit.ensures))
    ]
