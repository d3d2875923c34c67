-- Invariant: the references and the sends of the messages before j are counted. As no message is sent more than once a row, they stay few.
use Rattle.bus_log.proofs.Counts.{Counted}
use Rattle.bus_log.proofs.cycle_sends.Given as goal

abbrev pub invariant-loop-j : goal.invariant-loop-j
invariant-loop-j l = Counted l.p l.j l.sends
