-- What neither reference nor columns cover of a row is what their lengths leave of it.
use Prim.Native.Nat.{ℕ, ◌+◌, ◌≤◌, ◌<◌}
use mathlib.Core.Path.{◌≡◌, refl, ◌∙◌}
use mathlib.Core.Bool.{Bool, true, false, ◌||◌, not}
use mathlib.Core.List.{List}
use native.Mathlib.Nat.{zero-add}
use native.Mathlib.Decide.{dec_lt}
use native.Mathlib.Omega.{arith}
use lib.Dec.{leb, ltb}
use borrow.Author.Tests.{ltb-true, leb-true, lt-ltb, le-ltb, le-leb}
use Rattle.basics.specs.Sums.{sum, only}
use Rattle.basics.specs.Tests.{some}
use Rattle.basics.proofs.Sums.{only-never, sum_same, sum-zero, sum-single, sum-swap, sum-add, sum_ones, sum-span}
use Rattle.basics.proofs.Tests.{never, and-true, some_at, some-none}
use Rattle.rules.specs.Problem.{cycle, ref_len, columns, start, width, WellFormed}
use Rattle.rules.proofs.Columns.{behind-reference, in-cycle, one-column}
use Rattle.losses.specs.Losses.{in_column, covered, uncovered}

module _ {p : List ℕ} (wf : WellFormed p) where
  -- place y lies in column c
  record Within (y c : ℕ) : Type 0 where
    from : start p c ≤ y
    to : y < start p c + width p c

  column-within : (y c : ℕ) → in_column p y c ≡ true → Within y c
  unfolding in_column
  column-within y c e =
      let h = and-true (leb (start p c) y) (ltb y (start p c + width p c)) e in
      record { from = leb-true _ _ h.0; to = ltb-true _ _ h.1 }

  -- a place is in the reference window, in one column, or in neither
  in_columns : ℕ → ℕ
  in_columns y = sum (columns p) (λ c. only (in_column p y c) 1)

  in_one : (y c : ℕ) → c < columns p → in_column p y c ≡ true → in_columns y ≡ 1
  unfolding in_columns
  in_one y c l e =
      sum-single (columns p) (λ c. only (in_column p y c) 1) c l (λ d m q. only-never (in_column p y d) 1 (λ h.
      let u = column-within y d h in
      let v = column-within y c e in
      q (one-column p wf d c y m l u.from u.to v.from v.to)))
      ∙ rw e

  in-none : (y : ℕ) → ((c : ℕ) → c < columns p → in_column p y c ≡ false) → in_columns y ≡ 0
  unfolding in_columns
  in-none y h = sum-zero (columns p) (λ c. only (in_column p y c) 1) (λ c l. rw (h c l))

  each-place : (y : ℕ) → only (ltb y (ref_len p)) 1 + in_columns y + only (not (covered p y)) 1 ≡ 1
  unfolding covered
  each-place y = elim (dec_lt y (ref_len p)) [ yes h ↦ before h | no h ↦ behind (omega arith) (some (columns p) (in_column p y)) refl ]
    where
      outside : y < ref_len p → (c : ℕ) → c < columns p → in_column p y c ≡ false
      outside h c l = never (in_column p y c) (λ e. let u = column-within y c e in let b = behind-reference p wf c l in omega arith)

      before : y < ref_len p → only (ltb y (ref_len p)) 1 + in_columns y + only (not (ltb y (ref_len p) || some (columns p) (in_column p y))) 1 ≡ 1
      before h = rw (lt-ltb y (ref_len p) h, in-none y (outside h))

      behind : ref_len p ≤ y → (b : Bool) → some (columns p) (in_column p y) ≡ b
          → only (ltb y (ref_len p)) 1 + in_columns y + only (not (ltb y (ref_len p) || some (columns p) (in_column p y))) 1 ≡ 1
      behind h false e = rw (le-ltb y (ref_len p) h, e, in-none y (some-none (columns p) (in_column p y) e))
      behind h true e = let c = some_at (columns p) (in_column p y) e in rw (le-ltb y (ref_len p) h, e, in_one y c.0 c.1 c.2)

  before-reference : sum (cycle p) (λ y. only (ltb y (ref_len p)) 1) ≡ ref_len p
  before-reference =
      sum_same (cycle p) _ _ (λ y l. rw (le-leb 0 y (omega arith), zero-add (ref_len p)))
      ∙ sum-span (cycle p) 0 (ref_len p) (omega (arith, wf.header.reference-most))

  in-columns : sum (cycle p) in_columns ≡ sum (columns p) (width p)
  unfolding in_columns in_column
  in-columns =
      sum-swap (cycle p) (columns p) (λ y c. only (in_column p y c) 1)
      ∙ sum_same (columns p) _ _ (λ c l. sum-span (cycle p) (start p c) (width p c) (in-cycle p wf c l))

  -- reference, columns and gaps make up the row
  pub row-parts : ref_len p + sum (columns p) (width p) + uncovered p ≡ cycle p
  unfolding uncovered
  row-parts =
      let outside : ℕ → ℕ = λ y. only (not (covered p y)) 1 in
      let first : ℕ → ℕ = λ y. only (ltb y (ref_len p)) 1 in
      let a : sum (cycle p) (λ y. first y + in_columns y + outside y) ≡ cycle p = sum_same (cycle p) _ _ (λ y l. each-place y) ∙ sum_ones (cycle p) in
      let b = sum-add (cycle p) (λ y. first y + in_columns y) outside in
      let c = sum-add (cycle p) first in_columns in
      omega (arith, before-reference, in-columns)
