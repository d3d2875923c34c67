-- Invariant: the messages before j are read, in front of what the buffer held.
use Rattle.basics.specs.Runs.{Turned}
use Rattle.problem.specs.Layout.{message_of}
use Rattle.reader.proofs.read_messages.Given as goal

abbrev pub invariant-loop-j : goal.invariant-loop-j
invariant-loop-j l = Turned (message_of l.layout) l.size 7 l.part l.initial.words l.j l.words
