-- The copy has the same places.
use Rattle.lookahead.proofs.Trying.{cautious-copied}
use Rattle.lookahead.proofs.has_room.Goals as goal

pub returns : goal.returns
returns c = cautious-copied c.copy.ensures.copied c.possible.ensures.cautious
