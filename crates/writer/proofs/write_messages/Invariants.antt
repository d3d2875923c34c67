-- Invariant: the messages before j are written, in front of what the buffer held.
use Rattle.basics.specs.Runs.{Turned}
use Rattle.problem.specs.Layout.{message_bytes}
use Rattle.writer.proofs.write_messages.Given as goal

abbrev pub invariant-loop-j : goal.invariant-loop-j
invariant-loop-j l = Turned (message_bytes l.layout) 7 l.size l.part l.initial.out l.j l.out
