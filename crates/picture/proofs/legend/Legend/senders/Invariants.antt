-- No more nodes are told than seen, so that there are at most 16.
use Rattle.std.proofs.Common.{◌≤◌}
use Rattle.picture.proofs.legend.Legend.senders.Given as goal

abbrev pub invariant-loop-n : goal.invariant-loop-n
invariant-loop-n l = l.k ≤ l.n
