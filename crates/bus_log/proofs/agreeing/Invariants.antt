-- Invariant: the pairs before `pair` are those that are due.
use Rattle.std.proofs.Common.{◌*◌}
use Rattle.bus_log.specs.Parts.{Agreed}
use Rattle.bus_log.proofs.agreeing.Given as goal

abbrev pub invariant-loop-pair : goal.invariant-loop-pair
invariant-loop-pair l = Agreed l.due l.later l.log (2 * l.pair)
