-- One less has the digits above the lowest, and not the lowest.
use Prim.Native.Nat.{◌-◌}
use native.Mathlib.Omega.{arith}
use lib.Bits.{and_le_r}
use Rattle.basics.proofs.Bits.{dropped}
use Rattle.basics.proofs.drop_lowest.Goals as goal

pub returns : goal.returns
returns c = let x = c.args.x in (dropped x c.requires c.ranges.x.fits, omega (arith, and_le_r x (x - 1)))
