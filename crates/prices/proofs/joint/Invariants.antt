-- The words of the rows passed have the columns in which a message of the set may be sent: each step writes the next row's.
use Rattle.std.proofs.Common.{◌≡◌, length}
use Rattle.rules.specs.Problem.{most_rows}
use Rattle.prices.specs.Prices.{Joint}
use Rattle.prices.proofs.joint.Given as goal

abbrev pub invariant-loop-i : goal.invariant-loop-i
invariant-loop-i l = (length l.u ≡ most_rows) × Joint l.p l.table l.left l.i l.u
