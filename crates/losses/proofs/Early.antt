-- The sends of a message that start in the matrix cycle are among its first R, so that `used` misses none.
use Prim.Native.Nat.{ℕ, ◌*◌, ◌≤◌, ◌<◌}
use mathlib.Core.Path.{◌≡◌}
use mathlib.Core.List.{List}
use native.Mathlib.Nat.{le_refl, lt_of_mul-lt-mul_right, mul-le-mul, mul-le-mul_right}
use native.Mathlib.Omega.{arith}
use lib.Dec.{ltb}
use borrow.Author.Tests.{le-ltb}
use Rattle.basics.specs.Sums.{sum, only}
use Rattle.basics.proofs.Sums.{sum-beyond, sum_same}
use Rattle.rules.specs.Parts.{Member}
use Rattle.rules.specs.Problem.{rows, cycle, matrix, messages, period, lasts, repeat, WellFormed}
use Rattle.rules.specs.Sends.{send_at}
use Rattle.rules.proofs.Bounds.{member, period-is, repeat-least}
use Rattle.losses.specs.Losses.{used}

module _ {p : List ℕ} (wf : WellFormed p) (w : List ℕ) where
  -- the theorem, of any proposal: periods are no shorter than the cycle, so that send R starts behind R cycles or later
  pub early-sends : (j n : ℕ) → j < messages p → send_at p w j n < matrix p → n < rows p
  unfolding send_at
  early-sends j n l h =
      let m : Member p j = member wf l in
      let longer : cycle p ≤ period p j = omega (arith, period-is m, mul-le-mul_right {m = 1} {n = repeat p j} (cycle p) (repeat-least m)) in
      let behind : n * cycle p ≤ n * period p j = mul-le-mul (le_refl n) longer in
      lt_of_mul-lt-mul_right (cycle p) {m = n} {n = rows p} (omega arith)

  -- so a sum over more sends, however many, is no other
  pub used_all : (k : ℕ) → rows p ≤ k → sum (messages p) (λ j. sum k (λ n. only (ltb (send_at p w j n) (matrix p)) (lasts p j))) ≡ used p w
  unfolding used
  used_all k h =
      sum_same (messages p) _ _ (λ j l.
      sum-beyond (rows p) k (λ n. only (ltb (send_at p w j n) (matrix p)) (lasts p j)) h (λ n b. rw (le-ltb (send_at p w j n) (matrix p) (late j n l b))))
    where
      late : (j n : ℕ) → j < messages p → rows p ≤ n → matrix p ≤ send_at p w j n
      late j n l b = let not-early : ¬ (send_at p w j n < matrix p) = λ h. let e = early-sends j n l h in omega arith in omega arith
