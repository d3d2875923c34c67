-- A base row is below 64 and a cycle below 65536, so that nothing wraps.
use Rattle.rules.proofs.Computed.{first_of}
use Rattle.rules.proofs.placing.first_send.Goals as goal

pub returns : goal.returns
returns c = first_of c.requires.0 c.requires.1 c.cycle_of.ensures.0 c.start_of.ensures.is
