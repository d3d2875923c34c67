-- A digit is the last of those that are left when the ones below it are shifted out.
use Rattle.std.proofs.Common.{ℕ, ap, sym}
use lib.Dec.{eqb}
use Rattle.basics.proofs.Bits.{bit_shifted}
use Rattle.basics.proofs.has_bit.Goals as goal

pub returns : goal.returns
returns c = ap (λ (x : ℕ). eqb x 1) (sym (bit_shifted _ _))
