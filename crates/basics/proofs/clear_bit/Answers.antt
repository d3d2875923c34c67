-- What is left is what every other digit lets through.
use Rattle.basics.proofs.Bits.{cleared}
use Rattle.basics.proofs.clear_bit.Goals as goal

pub returns : goal.returns
returns c = cleared _ _ c.requires
