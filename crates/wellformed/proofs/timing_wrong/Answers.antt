-- The tests of the rule, each on the message's own words.
use Rattle.rules.specs.Rules.{timing_wrong}
use Rattle.wellformed.proofs.timing_wrong.Goals as goal

pub returns : goal.returns
unfolding timing_wrong
returns c = rw (c.is_on_grid.ensures, c.field_in-period.ensures, c.field_in-offset.ensures, c.field_in-deadline.ensures)
