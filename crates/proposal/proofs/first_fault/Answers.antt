-- A message that is passed over has no cell; one that is looked at either found no cell taken, or the earlier messages do not meet it.
use Rattle.std.proofs.Common.{arith, sym, ◌∙◌, below_more, below_none}
use Rattle.rules.specs.Problem.{column, row, Placed}
use Rattle.rules.proofs.Bounds.{member}
use Rattle.rules.proofs.Meaning.{own_alone}
use Rattle.proposal.proofs.Walk.{passed_none, passed-skip, passed-more, words-skip, words-passed, unlooked-kept, own_read, own_first, turn-read, taken-met, untaken, met-first, all-clear}
use Rattle.proposal.proofs.first_fault.Goals as goal

pub loop-j-init : goal.loop-j-init
loop-j-init c = record { passed = passed_none; words = c.requires.3 }

pub loop-j-preserved-then-not-looks_at : goal.loop-j-preserved-then-not-looks_at
loop-j-preserved-then-not-looks_at c =
    let unlooked = sym c.looks_at.ensures ∙ c.if-not-looks_at.true in
    record {
      passed = passed-skip c.loop-j.invariant.passed unlooked;
      words = words-skip c.requires.0 (unlooked-kept c.args.partial _ _ unlooked) c.loop-j.invariant.words;
    }

pub returns-in_default : goal.returns-in_default
returns-in_default c =
    rw c.in_default.is
    (own_first c.loop-j.invariant.passed (omega arith) (sym c.looks_at.ensures ∙ c.if-not-looks_at.false)
    (own_read c.column_of-c.ensures.0 c.row_of-r.ensures.0 c.own_fault-own.ensures) c.in_default.is)

-- a message without a fault by itself can have its column and base row
pub occupy-requires-clause-rows_le_most_rows : goal.occupy-requires-clause-rows_le_most_rows
occupy-requires-clause-rows_le_most_rows c =
    let most = c.requires.0.header.columns-most in
    let clear = (own_read c.column_of-c.ensures.0 c.row_of-r.ensures.0 c.own_fault-own.ensures).is in
    let at-column = column c.args.w.now c.loop-j.j in
    let at-row = row c.args.w.now c.loop-j.j in
    let placed : Placed c.args.p.now c.loop-j.j at-column at-row = (own_alone c.args.p.now c.loop-j.j at-column at-row (sym clear ∙ c.in-Ok.is)).placed in
    let c-is = c.column_of-c.ensures.0 in
    let r-is = c.row_of-r.ensures.0 in
    let step_is = c.repeat_of-step.ensures.is in
    (omega arith, omega arith, omega arith, omega (arith, c-is), omega (arith, r-is, step_is))

pub returns-then-do_meet : goal.returns-then-do_meet
returns-then-do_meet c =
    let clear = (own_read c.column_of-c.ensures.0 c.row_of-r.ensures.0 c.own_fault-own.ensures).is in
    met-first c.loop-j.invariant.passed (omega arith) (sym c.looks_at.ensures ∙ c.if-not-looks_at.false) (sym clear ∙ c.in-Ok.is) c.loop-i.invariant (omega arith)
    (sym c.do_meet.ensures ∙ c.if-do_meet.true)

pub loop-i-init : goal.loop-i-init
loop-i-init c = below_none _

pub loop-i-preserved : goal.loop-i-preserved
loop-i-preserved c = below_more _ _ c.loop-i.invariant (sym c.do_meet.ensures ∙ c.if-do_meet.false)

-- one that found a cell taken meets an earlier message, so the search for it ends by the label
pub unreachable-requires : goal.unreachable-requires
unreachable-requires c =
    let turn =
    turn-read (member c.requires.0 (omega arith)) c.loop-j.invariant.passed (sym c.looks_at.ensures ∙ c.if-not-looks_at.false)
    (sym (own_read c.column_of-c.ensures.0 c.row_of-r.ensures.0 c.own_fault-own.ensures).is ∙ c.in-Ok.is) c.loop-j.invariant.words
    c.column_of-c.ensures.0 c.row_of-r.ensures.0 c.repeat_of-step.ensures.is c.rows_of-rows.ensures.0 c.occupy.ensures
    in
    let earlier = taken-met turn c.if-occupy.true c.loop-i.invariant in
    omega arith

pub loop-j-preserved : goal.loop-j-preserved
loop-j-preserved c =
    let turn =
    turn-read (member c.requires.0 (omega arith)) c.loop-j.invariant.passed (sym c.looks_at.ensures ∙ c.if-not-looks_at.false)
    (sym (own_read c.column_of-c.ensures.0 c.row_of-r.ensures.0 c.own_fault-own.ensures).is ∙ c.in-Ok.is) c.loop-j.invariant.words
    c.column_of-c.ensures.0 c.row_of-r.ensures.0 c.repeat_of-step.ensures.is c.rows_of-rows.ensures.0 c.occupy.ensures
    in
    record { passed = passed-more turn (untaken turn c.if-occupy.false); words = words-passed turn }

pub returns-after-loop-j : goal.returns-after-loop-j
returns-after-loop-j c = all-clear c.loop-j.invariant.passed c.loop-j.invariant.words c.requires.1 (omega arith)
