-- Figures: how large they become, and the sum and the largest of them, one more at each turn of a loop.
use Prim.Native.Nat.{ℕ, ◌+◌, ◌*◌, ◌<◌, ◌≤◌, max}
use mathlib.Core.Path.{◌≡◌, refl, sym, ap₂, ◌∙◌}
use mathlib.Core.List.{List}
use native.Mathlib.Nat.{mul-le-mul, max-le}
use native.Mathlib.Omega.{arith}
use Rattle.basics.specs.Sums.{sum, largest}
use Rattle.basics.proofs.Sums.{sum-next, largest-next}
use Rattle.response.specs.Events.{count, Sound}
use Rattle.response.specs.Times.{ceiling}
use Rattle.response.specs.Parts.{Member, Figure}
use Rattle.response.proofs.Queue.{ceiling-least}

pub member : {e : List ℕ} {j : ℕ} → Sound e → j < count e → Member e j
member {e} {j} s l = record { sound = s; below = l; rules = s.rules j l }

-- a / b, rounded up, is at most a
pub ceiling-figure : {a b hi r : ℕ} → r ≡ ceiling a b → a ≤ hi → 1 ≤ b → Figure (ceiling a b) 0 hi r
ceiling-figure {a} {b} q h k = record {
  is = q;
  least = omega arith;
  most = omega (arith, ceiling-least a b a k (omega (arith, mul-le-mul {n₁ = a} {m₁ = 1} {n₂ = a} {m₂ = b} (omega arith) k)));
}

-- ---- the sum and the largest
-- t is g of the first n of f, their sum or the largest of them, and at most hi
pub record Gathered (g : ℕ → (ℕ → ℕ) → ℕ) (f : ℕ → ℕ) (n hi t : ℕ) : Type 0 where
  pub is : t ≡ g n f
  pub most : t ≤ hi

module _ {f : ℕ → ℕ} where
  pub sum-none : Gathered sum f 0 0 0
  unfolding sum
  sum-none = record { is = refl; most = omega arith }

  pub largest-none : {b : ℕ} → Gathered largest f 0 b 0
  unfolding largest
  largest-none = record { is = refl; most = omega arith }

  module _ {b n t x : ℕ} where
    pub sum_more : Gathered sum f n (b * n) t → Figure (f n) 0 b x → Gathered sum f (n + 1) (b * (n + 1)) (t + x)
    sum_more s d = record { is = ap₂ ◌+◌ s.is d.is ∙ sym (sum-next n f); most = omega arith }

    pub largest-more : {r : ℕ} → Gathered largest f n b t → Figure (f n) 0 b x → r ≡ max t x → Gathered largest f (n + 1) b r
    largest-more s d q = record { is = q ∙ ap₂ max s.is d.is ∙ sym (largest-next n f); most = rw q (max-le s.most d.most) }
