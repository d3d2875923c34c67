-- The words are tested where they stand in the buffer, and laid into the caller's.
use Rattle.std.proofs.Common.{arith, refl}
use Rattle.rules.proofs.Faults.{handed}
use Rattle.problem.proofs.Callers.{given-right}
use Rattle.writer.proofs.Writing.{writing-refused, writing-bad, given-is-formed, writing-laid}
use Rattle.writer.proofs.write.Goals as goal

pub returns-in_err-n : goal.returns-in_err-n
returns-in_err-n c = rw (handed c.from_residual.ensures.1) (writing-refused _ _ c.in_err-n.ensures)

pub bounds-words-5 : goal.bounds-words-5
bounds-words-5 c = omega (arith, (given-right _ c.in_ok-n.ensures.clear).long)

pub bounds-words-6 : goal.bounds-words-6
bounds-words-6 c = omega (arith, (given-right _ c.in_ok-n.ensures.clear).long)

pub returns-in_err-words_fault : goal.returns-in_err-words_fault
returns-in_err-words_fault c =
    rw (handed c.from_residual-in_err-words_fault.ensures.1) (writing-bad c.in_ok-n.ensures c.in_err-words_fault.ensures _ refl)

pub layout_by-requires : goal.layout_by-requires
layout_by-requires c =
    let header = (given-right _ c.in_ok-n.ensures.clear).header in
    (refl, refl, omega (arith, header.columns-most), omega (arith, header.messages-most))

pub lay-requires : goal.lay-requires
lay-requires c = given-is-formed c.in_ok-n.ensures c.in_ok-words_fault.ensures refl

pub returns : goal.returns
returns c = writing-laid c.in_ok-n.ensures c.in_ok-words_fault.ensures refl c.layout_by.ensures c.lay.ensures
