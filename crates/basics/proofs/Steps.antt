-- Functions that rise by at least c wherever they rise: a search from below for their least solution takes few turns.
use Prim.Native.Nat.{ℕ, zero, suc, ◌+◌, ◌*◌, ◌≤◌}
use mathlib.Core.Path.{◌≡◌, refl, ap}
use mathlib.Core.Bool.{Bool, true, false}
use native.Mathlib.Nat.{mul-le-mul, eq-or-lt_of_le}
use mathlib.Core.Logic.{inl, inr}
use native.Mathlib.Omega.{arith}
use Rattle.basics.specs.Sums.{sum, only}

-- y is x, or at least c above it
pub data Step (c x y : ℕ) : Type 0 where
  stays : x ≡ y → Step c x y
  rises : x + c ≤ y → Step c x y

pub step-most : {c x y : ℕ} → Step c x y → x ≤ y
step-most (stays e) = omega arith
step-most (rises h) = omega arith

pub step-add : {c x y u v : ℕ} → Step c x y → Step c u v → Step c (x + u) (y + v)
step-add (stays e) (stays f) = stays (omega arith)
step-add (stays e) (rises h) = rises (omega arith)
step-add (rises h) s = rises (let m = step-most s in omega arith)

-- one more of what takes at least c
pub step-times : {c : ℕ} (k a b : ℕ) → c ≤ k → a ≤ b → Step c (k * a) (k * b)
step-times {c} k a b h l =
    elim (eq-or-lt_of_le l) [
      | inl e ↦ stays (ap (k *◌) e)
      | inr m ↦ rises (let p = mul-le-mul {n₁ = k} {m₁ = a + 1} {n₂ = k} {m₂ = b} (omega arith) (omega arith) in omega arith)
    ]

pub step-only : {c x y : ℕ} (t : Bool) → Step c x y → Step c (only t x) (only t y)
step-only true s = s
step-only false s = stays refl

pub step_sum : {c : ℕ} (n : ℕ) (f g : ℕ → ℕ) → ((j : ℕ) → Step c (f j) (g j)) → Step c (sum n f) (sum n g)
unfolding sum
step_sum zero f g h = stays refl
step_sum (suc n) f g h = step-add (step_sum n f g h) (h n)
