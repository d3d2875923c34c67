-- Each line is as long as was asked, above 0.
use Rattle.std.proofs.Common.{◌≡◌}
use Rattle.views.proofs.tables.lines.Given as goal

abbrev pub invariant-loop-line : goal.invariant-loop-line
invariant-loop-line l = l.line-iterator.size ≡ l.size
