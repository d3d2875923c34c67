-- Laws of what cells are worth: those of a row, whose columns are passed one by one, and those of the rows passed.
use Prim.Native.Nat.{ℕ, ◌+◌, ◌*◌, ◌<◌, ◌≤◌}
use mathlib.Core.Path.{◌≡◌, refl, subst}
use mathlib.Core.List.{List}
use native.Mathlib.Decide.{ℕ_discrete}
use native.Mathlib.Omega.{arith}
use borrow.Author.Tests.{eq-eqb, ne_eqb}
use lib.Dec.{eqb}
use lib.ListN.{get_or}
use Rattle.basics.specs.Bits.{bit, Cleared, Lowest}
use Rattle.basics.specs.Sums.{sum, only}
use Rattle.basics.proofs.Bits.{bit-zero}
use Rattle.basics.proofs.Sums.{sum-next, sum-rises, sum-add, sum-single, sum-zero, only-most}
use Rattle.rules.specs.Problem.{most_columns}
use Rattle.prices.specs.Prices.{cell_at, price, most_price, among, worth_in, worth}

-- ---- the columns of a row
-- the columns of x are worth at most t and what those of z are; each adds at most the highest price
pub record Counted (y : List ℕ) (i x t z : ℕ) : Type 0 where
  pub least : worth_in y i x ≤ t + worth_in y i z
  pub most : t + most_price * z ≤ most_price * x

module _ (y : List ℕ) (i : ℕ) where
  -- a column less: that column's price less
  less : {z m w : ℕ} → m < most_columns → Cleared z m w → worth_in y i z ≤ price y i m + worth_in y i w
  unfolding worth_in
  less {z} {m} {w} l C =
      let f : ℕ → ℕ = λ c. price y i c in
      let a = sum-rises most_columns (λ c. among z c (f c)) (λ c. only (eqb c m) (f c) + among w c (f c)) each in
      let b = sum-add most_columns (λ c. only (eqb c m) (f c)) (λ c. among w c (f c)) in
      let d = sum-single most_columns (λ c. only (eqb c m) (f c)) m l (λ k g q. rw (ne_eqb k m q)) in
      let s : only (eqb m m) (f m) ≡ f m = rw (eq-eqb m m refl) in
      omega arith
    where
      each : (c : ℕ) → c < most_columns → among z c (price y i c) ≤ only (eqb c m) (price y i c) + among w c (price y i c)
      each c k = elim (ℕ_discrete c m) [
        | yes q ↦ let h = only-most (eqb (bit z c) 1) (price y i c) in rw (eq-eqb c m q) (omega arith)
        | no q ↦ elim (ℕ_discrete (bit z c) 1) [
          | yes h ↦ rw (eq-eqb (bit z c) 1 h, eq-eqb (bit w c) 1 (C.keeps c k q h)) (omega arith)
          | no h ↦ rw (ne_eqb (bit z c) 1 h) (omega arith)
        ]
      ]

  pub counted_next : {x t k q z w at : ℕ} → at ≡ cell_at i k → q ≡ get_or y at 0 → q ≤ most_price → Lowest z k w → Counted y i x t z → Counted y i x (t + q) w
  counted_next {k = k} {q = q} e v h D K =
      let s = less D.below D.rest in
      let f : q ≡ price y i k = rw (← e) v in
      record { least = let b = K.least in omega arith; most = let b = K.most in let g = D.less in omega arith }

  nothing : worth_in y i 0 ≡ 0
  unfolding worth_in
  nothing = sum-zero most_columns (λ c. among 0 c (price y i c)) (λ c l. rw (bit-zero c))

  pub counted-all : {x t z : ℕ} → z ≡ 0 → Counted y i x t z → worth_in y i x ≤ t
  counted-all {x} {t} e K = let b : worth_in y i x ≤ t + worth_in y i 0 = subst (λ (z : ℕ). worth_in y i x ≤ t + worth_in y i z) e K.least in omega (arith, nothing)

-- ---- the rows
pub worth-next : (y u : List ℕ) (n : ℕ) {t x : ℕ} → worth_in y n (get_or u n 0) ≤ x → worth y n u ≤ t → worth y (n + 1) u ≤ t + x
unfolding worth
worth-next y u n h g = let s = sum-next n (λ i. worth_in y i (get_or u i 0)) in omega arith

pub worth-none : (y u : List ℕ) → worth y 0 u ≤ 0
unfolding worth sum
worth-none y u = omega arith
