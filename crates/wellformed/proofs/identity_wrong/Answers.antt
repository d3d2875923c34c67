-- The tests of the rule, each on the message's own words.
use Rattle.rules.specs.Rules.{identity_wrong}
use Rattle.wellformed.proofs.identity_wrong.Goals as goal

pub returns : goal.returns
unfolding identity_wrong
returns c =
    rw (c.is_repeated.ensures, c.is_receiver.ensures, c.field_in.ensures, c.field_in-receivers.ensures, c.field_in-sender.ensures, c.field_in-id.ensures)
