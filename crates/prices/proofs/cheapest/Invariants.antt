-- The cost is at most the sum of each place passed: of each base row before this one, and of each column of this one that is no longer left.
use Rattle.std.proofs.Common.{◌<◌}
use Rattle.rules.specs.Problem.{most_rows, most_columns}
use Rattle.prices.proofs.Cheaper.{Low, LowIn}
use Rattle.prices.proofs.cheapest.Given as goal

abbrev pub invariant-loop-c : goal.invariant-loop-c
invariant-loop-c l = (l.column < most_columns) × (l.row < most_rows) × Low l.table l.sums l.j l.step l.r l.cost × LowIn l.table l.sums l.j l.step l.r l.cost l.c-iterator.left

abbrev pub invariant-loop-r : goal.invariant-loop-r
invariant-loop-r l = (l.column < most_columns) × (l.row < most_rows) × Low l.table l.sums l.j l.step l.r l.cost
