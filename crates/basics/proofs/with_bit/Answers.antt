-- What either has.
use Rattle.basics.proofs.Bits.{joined}
use Rattle.basics.proofs.with_bit.Goals as goal

pub returns : goal.returns
returns c = joined _ _ c.requires
