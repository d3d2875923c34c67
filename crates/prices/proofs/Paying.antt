-- The certificate: what has no fault has at most one message in a cell, so that all messages together pay at most what the cells are worth.
use Prim.Native.Nat.{ℕ, ◌+◌, ◌%◌, ◌<◌, ◌≤◌}
use mathlib.Core.Path.{◌≡◌, refl, sym, subst, ◌∙◌}
use mathlib.Core.Bool.{Bool, true, false, ◌&&◌}
use mathlib.Core.List.{List}
use native.Mathlib.Nat.{le_trans, mod-lt}
use native.Mathlib.Omega.{arith}
use borrow.Author.Tests.{eq-eqb, eqb-true}
use lib.Dec.{eqb}
use lib.ListN.{get_or}
use Rattle.basics.specs.Bits.{bit, Has}
use Rattle.basics.specs.Sums.{sum, only}
use Rattle.basics.proofs.Sums.{sum-rises, sum-swap, own-terms, exchange}
use Rattle.basics.proofs.Tests.{and-true, not-both}
use Rattle.rules.specs.Problem.{most_columns, rows, messages, repeat, column, row}
use Rattle.rules.specs.Tests.{Stand}
use Rattle.rules.proofs.Bounds.{member, repeat-least}
use Rattle.rules.proofs.Meaning.{stands}
use Rattle.places.specs.Places.{table_at, Few, Within, Shut, Narrowed}
use Rattle.prices.specs.Prices.{price, cost, among, worth_in, worth, Joint, sum_at, Sums, Owed, PaidIn, Paid}
use Rattle.places.proofs.Meets.{low_column, not-shared}
use Rattle.places.proofs.Tables.{Made, made-skip}

-- ---- what messages without a fault pay
-- what message j pays for its place in w
abbrev paid : List ℕ → List ℕ → List ℕ → ℕ → ℕ
paid p y w j = cost y (rows p) (repeat p j) (column w j) (row w j)

module _ {p u a : List ℕ} {l : ℕ} (y : List ℕ) (F : Few p) (J : Joint p a l (rows p) u) (w : List ℕ) (S : Stand p (messages p) w) (W : Within p a l w) where
  low : (j : ℕ) → j < messages p → column w j < most_columns
  low j h = low_column F (stands S j h)

  -- message j, of l, is sent in row i
  abbrev sent : ℕ → ℕ → Bool
  sent i j = eqb (bit l j) 1 && eqb (i % repeat p j) (row w j)

  in_row : (i j : ℕ) → sent i j ≡ true → i % repeat p j ≡ row w j
  in_row i j h = eqb-true _ _ (and-true (eqb (bit l j) 1) _ h).1

  -- so that its cell there is one of those that count
  counts : (i j : ℕ) → i < rows p → j < messages p → sent i j ≡ true → Has (get_or u i 0) (column w j)
  counts i j li lj h =
      let m = eqb-true _ _ (and-true (eqb (bit l j) 1) _ h).0 in
      (J.each i li).has j (column w j) lj m (subst (λ (r : ℕ). Has (get_or a (table_at j r) 0) (column w j)) (sym (in_row i j h)) (W.has j lj m))

  of_row : (i : ℕ) → i < rows p → sum (messages p) (λ j. only (sent i j) (price y i (column w j))) ≤ worth_in y i (get_or u i 0)
  unfolding worth_in
  of_row i li =
      le_trans
      (sum-rises (messages p) _ _ same)
      (own-terms (messages p) most_columns (λ c. among (get_or u i 0) c (price y i c)) (sent i) (column w)
      (λ j lj h. low j lj)
      (λ j k lj lk h g ne e. not-shared F S i j k lj lk ne e (in_row i j h) (in_row i k g)))
    where
      same : (j : ℕ) → j < messages p → only (sent i j) (price y i (column w j)) ≤ only (sent i j) (among (get_or u i 0) (column w j) (price y i (column w j)))
      same j lj = by (sent i j) refl
        where
          by : (b : Bool) → sent i j ≡ b → only b (price y i (column w j)) ≤ only b (among (get_or u i 0) (column w j) (price y i (column w j)))
          by true e = rw (eq-eqb _ _ (counts i j li lj e)) (omega arith)
          by false e = omega arith

  of-message : (j : ℕ) → among l j (paid p y w j) ≤ sum (rows p) (λ i. only (sent i j) (price y i (column w j)))
  unfolding cost
  of-message j = by (eqb (bit l j) 1)
    where
      by : (b : Bool) → only b (sum (rows p) (λ i. only (eqb (i % repeat p j) (row w j)) (price y i (column w j))))
          ≤ sum (rows p) (λ i. only (b && eqb (i % repeat p j) (row w j)) (price y i (column w j)))
      by false = omega arith
      by true = omega arith

  paid-most : sum (messages p) (λ j. among l j (paid p y w j)) ≤ worth y (rows p) u
  unfolding worth
  paid-most =
      le_trans (sum-rises (messages p) _ _ (λ j h. of-message j))
      (subst (λ (x : ℕ). x ≤ worth y (rows p) u) (sum-swap (rows p) (messages p) (λ i j. only (sent i j) (price y i (column w j)))) (sum-rises (rows p) _ _ of_row))

  -- and each at least its number of v
  at_least : {x v : List ℕ} {t : ℕ} → Sums p y x → Owed p a x l (messages p) v t → (j : ℕ) → j < messages p → among l j (get_or v j 0) ≤ among l j (paid p y w j)
  at_least {x} {v} X O j lj = by (eqb (bit l j) 1) refl
    where
      by : (b : Bool) → eqb (bit l j) 1 ≡ b → only b (get_or v j 0) ≤ only b (paid p y w j)
      by true e =
          let m = eqb-true _ _ e in
          let r = (stands S j lj).row_below in
          let f = (O.each j lj m).least (row w j) (column w j) r (low j lj) (W.has j lj m) in
          let s = X.each j (row w j) (column w j) lj r (low j lj) in
          omega arith
      by false e = omega arith

  -- so that the place of message k costs at most what is left of the cells' worth once the others have paid
  place-most : {x v : List ℕ} {t : ℕ} → Sums p y x → Owed p a x l (messages p) v t → (k : ℕ) → k < messages p → Has l k
      → t + get_or x (sum_at (repeat p k) (row w k) (column w k)) 0 ≤ worth y (rows p) u + get_or v k 0
  place-most {x} {v} {t} X O k lk h =
      let most = paid-most in
      let e = exchange (messages p) k (λ j. among l j (get_or v j 0)) (λ j. among l j (paid p y w j)) (at_least X O) lk in
      let b : among l k (paid p y w k) ≡ paid p y w k = rw (eq-eqb (bit l k) 1 h) in
      let d : among l k (get_or v k 0) ≡ get_or v k 0 = rw (eq-eqb (bit l k) 1 h) in
      let s = X.each k (row w k) (column w k) lk (stands S k lk).row_below (low k lk) in
      let q = O.total in
      omega arith

-- the law of prices: where even the cheapest places cost more, together, than the cells are worth, nothing without a fault has the messages there
pub dear-shut : {p y u a x v : List ℕ} {l t : ℕ} → Few p → Sums p y x → Joint p a l (rows p) u → Owed p a x l (messages p) v t → worth y (rows p) u < t
    → Shut p a l
dear-shut {p} {y} {v = v} {l = l} F X J O h = record {
  none = λ w S W.
      let most = paid-most y F J w S W in
      let all = sum-rises (messages p) (λ j. among l j (get_or v j 0)) (λ j. among l j (paid p y w j)) (at_least y F J w S W X O) in
      let q = O.total in
      omega arith;
}

-- and a single place that is too dear is in nothing without a fault
pub narrowed : {p y u a b x v : List ℕ} {l t m : ℕ} → Few p → Sums p y x → Joint p a l (rows p) u → worth y (rows p) u ≤ m
    → Owed p a x l (messages p) v t → Paid p x l v t m a b → Narrowed p l a b
narrowed {y = y} F X J h O K = record {
  keeps = λ w S W. record {
    has = λ j lj g.
        let at = stands S j lj in
        let d = place-most y F J w S W X O j lj g in
        (K.each j (row w j) lj g at.row_below).keeps (column w j) (low_column F at) (W.has j lj g) (omega arith);
  };
}

-- the cells in which a message may be sent by the table still count
pub joint-less : {p a b u x v : List ℕ} {l n t m : ℕ} → Few p → Paid p x l v t m a b → Joint p a l n u → Joint p b l n u
joint-less F K J = record {
  each = λ i h. record {
    has = λ j c k g d. (J.each i h).has j c k g ((K.each j _ k g (mod-lt i (repeat-least (member F.formed k)))).only c d);
  };
}

-- ---- what the loops compute
-- a message of l has in z the columns of b that it can pay for with base row r
pub record PaidAt (p x : List ℕ) (l : ℕ) (v : List ℕ) (t m j r b z : ℕ) : Type 0 where
  pub paid : Has l j → PaidIn x (repeat p j) r t (m + get_or v j 0) b z

module _ {p x : List ℕ} {l : ℕ} {v : List ℕ} {t m : ℕ} where
  -- a message that is not of l
  pub paid-skip : {j : ℕ} {b : Bool} {e a : List ℕ} → b ≡ eqb (bit l j) 1 → b ≡ false → Made p (PaidAt p x l v t m) j e a
      → Made p (PaidAt p x l v t m) (j + 1) e a
  paid-skip {j} f g M = made-skip _ _ j (λ i x y. record { paid = λ h. not-both (eq-eqb (bit l j) 1 h) (sym f ∙ g) }) M
