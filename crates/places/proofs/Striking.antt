-- A table without what meets a message that is placed: row by row, from each row that meets it to the next.
use Prim.Native.Nat.{ℕ, ◌+◌, ◌-◌, ◌/◌, ◌%◌, ◌<◌, ◌≤◌, min}
use mathlib.Core.Path.{◌≡◌, sym, ap, ap₂, subst, ◌∙◌}
use mathlib.Core.List.{List}
use mathlib.Core.Logic.{⊎_elim}
use native.Mathlib.Nat.{mod-lt, mod-eq_of_lt, div-add-mod'}
use native.Mathlib.Omega.{arith}
use lib.Arith.{digits_mod}
use lib.ListN.{length, get_or, set}
use Rattle.basics.specs.Bits.{Cleared}
use Rattle.basics.proofs.Tests.{below_or}
use Rattle.rules.specs.Problem.{most_rows}
use Rattle.rules.specs.Parts.{Repeat}
use Rattle.rules.specs.Tests.{common}
use Rattle.places.specs.Places.{table_at, Spared}
use Rattle.places.proofs.Tables.{Row, row-start, row_more, row-stay}

-- from a number to the next with the same rest there is none
not-between : (m i k : ℕ) → 0 < m → i < k → k < i + m → k % m ≡ i % m → ⊥
not-between m i k h l u e =
    let d = div-add-mod' i m in
    let q = mod-lt i h in
    ⊎_elim
    (λ g.
    let z = ap (λ (x : ℕ). x % m) (omega arith) ∙ digits_mod (i / m) g in
    let f : k % m ≡ i % m + (k - i) = z in
    omega arith)
    (λ g.
    let z = ap (λ (x : ℕ). x % m) (omega arith) ∙ digits_mod (i / m + 1) {r = i % m + (k - i) - m} (omega arith) in
    let f : k % m ≡ i % m + (k - i) - m = z in
    omega arith)
    (below_or (i % m + (k - i)) m)

-- n is the smaller repeat of two messages
pub record Shared (p : List ℕ) (m j n : ℕ) : Type 0 where
  pub is : n ≡ common p m j
  pub some : 0 < n
  pub most : n ≤ most_rows

pub shared : {p : List ℕ} {m j x y n : ℕ} → Repeat p m x → Repeat p j y → n ≡ min x y → Shared p m j n
unfolding common
shared a b e = record { is = e ∙ ap₂ min a.is b.is; some = omega (arith, a.least, b.least); most = omega (arith, a.most) }

module _ (p : List ℕ) (m c r j : ℕ) where
  -- a row that does not meet it stays
  stays : (i x : ℕ) → (i % common p m j ≡ r % common p m j → ⊥) → Spared p m c r j i x x
  stays i x n = record { keeps = λ d l h k. h; only = λ d h. h; unmet = λ d h k. n k.rows_agree }

  -- a row that does
  struck : (i : ℕ) {x z : ℕ} → i % common p m j ≡ r % common p m j → Cleared x c z → Spared p m c r j i x z
  struck i {x} {z} e C = record {
    keeps = λ d l h k. C.keeps d l (λ q. k record { one-column = q; rows_agree = e }) h;
    only = C.only;
    unmet = λ d h k. C.gone (rw k.one-column at h);
  }

  module _ {s : ℕ} (S : Shared p m j s) where
    -- the rows before the first that meets it
    pub strike-start : (e : List ℕ) → Row (Spared p m c r j) j (min (r % s) most_rows) e e
    strike-start e = row-stay _ j 0 (min (r % s) most_rows) (omega arith)
        (λ i x h l. stays i x (λ q. let f = mod-eq_of_lt {n = i} {m = s} (let g = mod-lt r S.some in omega arith) in let z : i % s ≡ r % s = rw S.is q in omega arith))
        (row-start _ j e)

    -- from one to the next
    pub strike-next : (i x : ℕ) {e a : List ℕ} {at : ℕ} → i < most_rows → i % s ≡ r % s → at ≡ table_at j i → at < length a → Cleared (get_or a at 0) c x
        → Row (Spared p m c r j) j (min i most_rows) e a → Row (Spared p m c r j) j (min (i + s) most_rows) e (set a at x)
    strike-next i x {e} {a} {at} low h q room C R =
        let some = S.some in
        let R' : Row (Spared p m c r j) j i e a = subst (λ (n : ℕ). Row (Spared p m c r j) j n e a) (omega arith) R in
        row-stay _ j (i + 1) (min (i + s) most_rows) (omega arith)
        (λ k y g l. stays k y (λ z. let f : k % s ≡ r % s = rw S.is z in not-between s i k some (omega arith) (omega arith) (f ∙ sym h)))
        (row_more _ j i x e a q room (struck i (subst (λ (n : ℕ). i % n ≡ r % n) S.is h) C) R')
