-- The sums of prices for each power of two: those for the rows are the prices, and two of one power make one of the power before.
use Prim.Native.Nat.{ℕ, zero, suc, ◌+◌, ◌*◌, ◌/◌, ◌%◌, ◌^◌, ◌<◌, ◌≤◌}
use mathlib.Core.Path.{◌≡◌, refl, sym, ap, subst, ◌∙◌}
use mathlib.Core.List.{List}
use mathlib.Core.Logic.{⊎_elim}
use native.Mathlib.Nat.{pow-suc, mod-eq_of_lt, add-mod_left, eq-or-lt_of_le}
use native.Mathlib.Decide.{ℕ_discrete}
use native.Mathlib.Omega.{arith}
use borrow.Author.Tests.{eq-eqb, ne_eqb}
use lib.Dec.{eqb}
use lib.ListN.{get_or}
use lib.Pow.{pow_mono}
use Rattle.basics.specs.Sums.{only}
use Rattle.basics.proofs.Sums.{sum-rises, sum-add, sum-single}
use Rattle.rules.specs.Problem.{most_columns, rows}
use Rattle.rules.proofs.Bounds.{member, repeat-is}
use Rattle.rules.proofs.Digits.{Multiple, base-row}
use Rattle.places.specs.Places.{Few}
use Rattle.prices.specs.Prices.{price, cost, sum_at, Halved, Sums}

-- ---- the prices
-- the first k words of x from n on are those of y
pub record Filled (y : List ℕ) (n k : ℕ) (x : List ℕ) : Type 0 where
  pub is : (i : ℕ) → i < k → get_or x (n + i) 0 ≡ get_or y i 0

-- ---- one power
-- no sum of x for the power s is more than its cells cost, of m rows
pub record Level (y : List ℕ) (m s : ℕ) (x : List ℕ) : Type 0 where
  pub most : (r c : ℕ) → r < s → c < most_columns → get_or x (sum_at s r c) 0 ≤ cost y m s c r

module _ (y : List ℕ) (m : ℕ) where
  -- a place that is sent once
  one-row : (c r : ℕ) → r < m → cost y m m c r ≡ price y r c
  unfolding cost
  one-row c r l =
      sum-single m (λ i. only (eqb (i % m) r) (price y i c)) r l (λ k g q. rw (ne_eqb (k % m) r (λ e. q (sym (mod-eq_of_lt g) ∙ e))))
      ∙ rw (eq-eqb (r % m) r (mod-eq_of_lt l))

  pub level-filled : {n k : ℕ} {x : List ℕ} → n ≡ most_columns * m → n ≤ k → Filled y n k x → Level y m m x
  level-filled {n} {k} {x} e h f = record {
    most = λ r c l g.
        let a = f.is (most_columns * r + c) (omega arith) in
        let b = ap (λ (i : ℕ). get_or x i 0) (let q : sum_at m r c ≡ n + (most_columns * r + c) = omega arith in q) in
        let d = one-row c r l in
        omega arith;
  }

  -- the rows r, r + s, .. are r, r + 2 s, .. and r + s, r + 3 s, ..
  two-rows : (s r i q : ℕ) → r < s → only (eqb (i % (2 * s)) r) q + only (eqb (i % (2 * s)) (s + r)) q ≤ only (eqb (i % s) r) q
  two-rows s r i q l =
      let twice : Multiple s (2 * s) = record { times = 2; is = refl } in
      elim (ℕ_discrete (i % (2 * s)) r) [
        | yes e ↦ let b = base-row s (2 * s) i r twice e in
            rw (eq-eqb (i % (2 * s)) r e, ne_eqb (i % (2 * s)) (s + r) (λ d. omega arith), eq-eqb (i % s) r (sym b ∙ mod-eq_of_lt l)) (omega arith)
        | no e ↦ elim (ℕ_discrete (i % (2 * s)) (s + r)) [
          | yes d ↦ let b = base-row s (2 * s) i (s + r) twice d in
              rw (ne_eqb (i % (2 * s)) r e, eq-eqb (i % (2 * s)) (s + r) d, eq-eqb (i % s) r (sym b ∙ add-mod_left s r ∙ mod-eq_of_lt l)) (omega arith)
          | no d ↦ rw (ne_eqb (i % (2 * s)) r e, ne_eqb (i % (2 * s)) (s + r) d) (omega arith)
        ]
      ]

  two-costs : (s c r : ℕ) → r < s → cost y m (2 * s) c r + cost y m (2 * s) c (s + r) ≤ cost y m s c r
  unfolding cost
  two-costs s c r l =
      let a = sum-add m (λ i. only (eqb (i % (2 * s)) r) (price y i c)) (λ i. only (eqb (i % (2 * s)) (s + r)) (price y i c)) in
      let b = sum-rises m
      (λ i. only (eqb (i % (2 * s)) r) (price y i c) + only (eqb (i % (2 * s)) (s + r)) (price y i c))
      (λ i. only (eqb (i % s) r) (price y i c))
      (λ i g. two-rows s r i (price y i c) l)
      in
      omega arith

  level-halved : {n s : ℕ} {x z : List ℕ} → n ≡ most_columns * s → Halved n x z → Level y m (2 * s) x → Level y m s z
  level-halved {n} {s} {x} {z} e H L = record {
    most = λ r c l g.
        let k = most_columns * r + c in
        let h = H.here k (omega arith) in
        let q0 = ap (λ (i : ℕ). get_or z i 0) (let q : sum_at s r c ≡ n + k = omega arith in q) in
        let q1 = ap (λ (i : ℕ). get_or x i 0) (let q : sum_at (2 * s) r c ≡ 2 * n + k = omega arith in q) in
        let q2 = ap (λ (i : ℕ). get_or x i 0) (let q : sum_at (2 * s) (s + r) c ≡ 3 * n + k = omega arith in q) in
        let l1 = L.most r c (omega arith) g in
        let l2 = L.most (s + r) c (omega arith) g in
        let t = two-costs s c r l in
        omega arith;
  }

  level-kept : {n s : ℕ} {x z : List ℕ} → 2 * n ≤ most_columns * s → Halved n x z → Level y m s x → Level y m s z
  level-kept {s = s} h H L = record { most = λ r c l g. let a = H.kept (sum_at s r c) (omega arith) in let b = L.most r c l g in omega arith }

-- ---- each power
-- from that of n words on, up to the rows
pub record Levels (y : List ℕ) (m n : ℕ) (x : List ℕ) : Type 0 where
  pub power : ℕ
  pub is : n ≡ most_columns * 2 ^ power
  pub fits : 2 ^ power ≤ m
  pub each : (f : ℕ) → power ≤ f → 2 ^ f ≤ m → Level y m (2 ^ f) x

pub levels-rows : {p y x : List ℕ} {n : ℕ} → Few p → n ≡ most_columns * rows p → Level y (rows p) (rows p) x → Levels y (rows p) n x
levels-rows {p} {y} {x} {n} F e L =
    let header = F.formed.header in
    record {
      power = header.rows-power;
      is = e ∙ ap (λ (m : ℕ). most_columns * m) header.rows_is;
      fits = omega (arith, header.rows_is);
      each = λ f h g. subst (λ (s : ℕ). Level y (rows p) s x) (let a = pow_mono h in let b = header.rows_is in omega arith) L;
    }

pub levels-next : {y x z : List ℕ} {m n k : ℕ} → most_columns < n → k ≡ n / 2 → Halved k x z → Levels y m n x → Levels y m k z
levels-next {y} {x} {z} {m} {n} {k} l h H L = by L.power L.is L.fits L.each
  where
    by : (e : ℕ) → n ≡ most_columns * 2 ^ e → 2 ^ e ≤ m → ((f : ℕ) → e ≤ f → 2 ^ f ≤ m → Level y m (2 ^ f) x) → Levels y m k z
    by zero q g each = absurd (omega arith)
    by (suc e) q g each =
        let s = pow-suc 2 e in
        record {
          power = e;
          is = omega arith;
          fits = omega arith;
          each = λ f i t. ⊎_elim
              (λ d. level-halved y m (let a = ap (2 ^◌) d in omega arith) H
              (subst (λ (u : ℕ). Level y m u x) (let a = ap (2 ^◌) d in omega arith) (each (suc e) (omega arith) g)))
              (λ d. level-kept y m (let a = pow_mono d in omega arith) H (each f d t))
              (eq-or-lt_of_le i);
        }

pub levels-all : {p y x : List ℕ} {n : ℕ} → Few p → n ≤ most_columns → Levels y (rows p) n x → Sums p y x
levels-all {p} {y} {x} {n} F l L = record {
  each = λ j r c lj.
      let m = member F.formed lj in
      let low : L.power ≤ m.timing.power = none L.power L.is in
      (subst (λ (s : ℕ). Level y (rows p) s x) (sym (repeat-is m)) (L.each m.timing.power low m.timing.repeat-fits)).most r c;
}
  where
    none : (e : ℕ) {f : ℕ} → n ≡ most_columns * 2 ^ e → e ≤ f
    none zero q = omega arith
    none (suc e) q = absurd (let s = pow-suc 2 e in let t = pow_mono {i = 0} {j = e} (omega arith) in omega arith)
