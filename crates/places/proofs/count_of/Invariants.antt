-- For each row passed at most as many as a word has digits.
use Rattle.std.proofs.Common.{◌*◌, ◌≤◌}
use Rattle.rules.specs.Problem.{most_columns}
use Rattle.places.proofs.count_of.Given as goal

abbrev pub invariant-loop-r : goal.invariant-loop-r
invariant-loop-r l = l.n ≤ most_columns * l.r
