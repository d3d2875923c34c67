-- A word has no digit from 32 on.
use Rattle.std.proofs.Common.{arith}
use Rattle.basics.proofs.Bits.{no_digit}
use Rattle.wellformed.proofs.is_receiver.Goals as goal

pub returns-then-node-ge32 : goal.returns-then-node-ge32
returns-then-node-ge32 c = no_digit _ _ (omega arith) (omega arith)
