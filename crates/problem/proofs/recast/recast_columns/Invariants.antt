-- Invariant: the columns before c are recast, in front of what the buffer held.
use Rattle.basics.specs.Runs.{front, Turned}
use Rattle.problem.proofs.recast.recast_columns.Given as goal

abbrev pub invariant-loop-c : goal.invariant-loop-c
invariant-loop-c l = Turned (front l.b) l.a l.b l.part l.initial.out l.c l.out
