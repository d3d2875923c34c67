-- Where header and count have no fault, the words are recast into the buffer's front.
use Rattle.std.proofs.Common.{arith, ap, refl, sym, ◌∙◌}
use Rattle.problem.specs.Callers.{column_words}
use Rattle.problem.proofs.Callers.{given-right, given-said}
use Rattle.writer.proofs.Writing.{given}
use Rattle.writer.proofs.problem_in.Goals as goal

pub bounds-words-5 : goal.bounds-words-5
bounds-words-5 c = omega (arith, (given-right _ (sym c.in_ok-count_fault.ensures)).long)

pub bounds-words-6 : goal.bounds-words-6
bounds-words-6 c = omega (arith, (given-right _ (sym c.in_ok-count_fault.ensures)).long)

pub layout_by-requires : goal.layout_by-requires
layout_by-requires c =
    let header = (given-right _ (sym c.in_ok-count_fault.ensures)).header in
    (refl, refl, omega (arith, header.columns-most), omega (arith, header.messages-most))

pub recast-requires : goal.recast-requires
recast-requires c =
    let said = c.column_words-said.ensures.0 ∙ ap column_words c.layout_by.ensures in
    let s = given-said (given-right _ (sym c.in_ok-count_fault.ensures)) said refl refl in
    (s, omega arith, omega arith, omega (arith, s.columns-most, s.messages-most))

pub message_at-requires : goal.message_at-requires
message_at-requires c =
    let header = (given-right _ (sym c.in_ok-count_fault.ensures)).header in
    (omega (arith, header.columns-most), omega (arith, header.messages-most))

pub returns : goal.returns
returns c =
    let said = c.column_words-said.ensures.0 ∙ ap column_words c.layout_by.ensures in
    given c.args.problem.now (sym c.in_ok-count_fault.ensures) refl refl said c.message_at.ensures (omega (arith, c.requires, c.recast.auto.out)) c.recast.ensures
