-- The comparison of the test.
use Rattle.rules.proofs.Computed.{fits-is}
use Rattle.rules.proofs.placing.fits_column.Goals as goal

pub returns : goal.returns
returns c = fits-is c.requires.0 c.args.c 0 c.frame_of.ensures.is c.width_of.ensures.is
