-- The five figures: their rules settle them, and those of an accepted proposal sum to the matrix cycle.
use Prim.Native.Nat.{ℕ, ◌+◌, ◌≤◌}
use mathlib.Core.Path.{◌≡◌, sym, ◌∙◌}
use mathlib.Core.List.{List}
use native.Mathlib.Nat.{mul-le-mul}
use native.Mathlib.Omega.{arith}
use Rattle.std.specs.Prelude.{Ok}
use Rattle.rules.specs.Problem.{matrix, WellFormed}
use Rattle.rules.proofs.Bounds.{rows-least}
use Rattle.rules.specs.Refusal.{Fault}
use Rattle.proposal.specs.Accepted.{Accepted}
use Rattle.losses.specs.declared.BusTime.{BusTime}
use Rattle.losses.specs.Losses.{FiguresAre}
use Rattle.losses.proofs.Sum.{losses-sum}

-- two that the rules allow are equal
pub figures-one : {x : Fault} {p w : List ℕ} {s t : BusTime} → FiguresAre x p w s → FiguresAre x p w t → s ≡ t
figures-one a b =
    λ i. record {
      reference = (a.reference-is ∙ sym b.reference-is) i;
      used = (a.used-is ∙ sym b.used-is) i;
      in_window = (a.in-window-is ∙ sym b.in-window-is) i;
      empty = (a.empty-is ∙ sym b.empty-is) i;
      gaps = (a.gaps-is ∙ sym b.gaps-is) i;
    }

pub figures-sum : {p w : List ℕ} {t : BusTime} → Accepted p w → FiguresAre (Ok tt) p w t → t.reference + t.used + t.in_window + t.empty + t.gaps ≡ matrix p
figures-sum a g = omega (arith, losses-sum a, g.reference-is, g.used-is, g.in-window-is, g.empty-is, g.gaps-is)

-- the reference takes some of it
pub reference-some : {p w : List ℕ} {t : BusTime} → WellFormed p → FiguresAre (Ok tt) p w t → 1 ≤ t.reference
reference-some wf g = omega (arith, g.reference-is, mul-le-mul {n₁ = 1} {m₁ = 65} (rows-least wf) wf.header.reference-least)
