-- The tests in their order: the step is the message's repeat, so that the first test is the range's.
use Rattle.std.proofs.Common.{refl, ap, not, ◌∙◌}
use Rattle.rules.proofs.Computed.{range-is, own_range, own-width, own-late, own-clear}
use Rattle.rules.proofs.placing.own_fault.Goals as goal

pub returns-then-not-is_in_range : goal.returns-then-not-is_in_range
returns-then-not-is_in_range c =
    own_range c.requires.0 _ _ (c.is_in_range.ensures ∙ range-is c.requires.0 _ _ refl c.requires.1) (ap not c.if-not-is_in_range.true)

pub returns-then-not-fits_column : goal.returns-then-not-fits_column
returns-then-not-fits_column c =
    own-width c.requires.0 _ _ (c.is_in_range.ensures ∙ range-is c.requires.0 _ _ refl c.requires.1) (ap not c.if-not-is_in_range.false)
    c.fits_column.ensures (ap not c.if-not-fits_column.true)

pub returns-then-not-is_timely : goal.returns-then-not-is_timely
returns-then-not-is_timely c =
    own-late c.requires.0 _ _ (c.is_in_range.ensures ∙ range-is c.requires.0 _ _ refl c.requires.1) (ap not c.if-not-is_in_range.false)
    c.fits_column.ensures (ap not c.if-not-fits_column.false) c.is_timely.ensures (ap not c.if-not-is_timely.true)

pub returns : goal.returns
returns c =
    own-clear c.requires.0 _ _ (c.is_in_range.ensures ∙ range-is c.requires.0 _ _ refl c.requires.1) (ap not c.if-not-is_in_range.false)
    c.fits_column.ensures (ap not c.if-not-fits_column.false) c.is_timely.ensures (ap not c.if-not-is_timely.false)
