-- A list of kept placements that is given what a plan has for one message more.
use Rattle.std.proofs.Common.{ℕ, ◌+◌, List, arith, below_more}
use Rattle.rules.specs.Problem.{identifier, Gives}
use Rattle.kept.specs.Kept.{put}
use Rattle.kept.proofs.Putting.{other-column, other_row, own-column, own_row}
use Rattle.carried.specs.Carried.{Carries, Carried}

pub carried-more : {p o w k : List ℕ} {j c r : ℕ} → Gives k j → Carried p o w k j → Carries o w (identifier p j) c r
    → Carried p o w (put k j c r) (j + 1)
carried-more {p} {o} {w} {k} {j} {c} {r} room C h = record {
  each = below_more _ j (λ i l. rw (other-column k j c r i (λ e. omega arith), other_row k j c r i (λ e. omega arith)) (C.each i l))
      (rw (own-column k j c r room, own_row k j c r room) h);
}
