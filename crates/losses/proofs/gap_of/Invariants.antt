-- Invariant: the reference and the columns before c are counted, each at most as long as a 16-bit field says.
use Rattle.std.proofs.Common.{◌≡◌, ◌≤◌, ◌+◌, ◌*◌}
use Rattle.basics.specs.Sums.{sum}
use Rattle.rules.specs.Problem.{ref_len, width}
use Rattle.losses.specs.Parts.{longest}
use Rattle.losses.proofs.gap_of.Given as goal

abbrev pub invariant-loop-c : goal.invariant-loop-c
invariant-loop-c l = record { counted : l.covered ≡ ref_len l.p + sum l.c (width l.p); few : l.covered ≤ (l.c + 1) * longest }
