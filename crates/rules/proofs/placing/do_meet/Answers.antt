-- Another column is no meeting; in one column the base rows decide, modulo the smaller repeat.
use Rattle.rules.proofs.Computed.{meets-not, meets-is}
use Rattle.rules.proofs.placing.do_meet.Goals as goal

pub returns-then-column_of : goal.returns-then-column_of
returns-then-column_of c =
    meets-not c.requires.member.0 c.requires.member.1 c.args.w.now c.column_of.ensures.0 c.column_of-2.ensures.0 c.if-column_of.true

pub returns : goal.returns
returns c =
    meets-is c.requires.member.0 c.requires.member.1 c.args.w.now
    c.column_of.ensures.0 c.column_of-2.ensures.0 c.if-column_of.false
    c.repeat_of.ensures.is c.repeat_of-2.ensures.is c.min-common.ensures
    c.row_of.ensures.0 c.row_of-2.ensures.0
