use Rattle.std.proofs.Common.{arith}
use Rattle.places.proofs.Covering.{allowed-none, allowed_all}
use Rattle.places.proofs.allowed_in.Goals as goal

pub loop-c-init : goal.loop-c-init
loop-c-init c = allowed-none _ _ _

pub returns : goal.returns
returns c = allowed_all _ _ _ c.requires.0.formed.header.columns-most (omega arith) c.loop-c.invariant c.requires.1 c.rows_of.ensures.0 c.free_in.ensures
