-- Laws of the order of proposals: of two one is not after the other, and only equal ones are both.
use Prim.Native.Nat.{ℕ, ◌+◌, ◌*◌, ◌/◌, ◌%◌, ◌≤◌}
use mathlib.Core.Path.{◌≡◌, refl, sym, ◌∙◌}
use mathlib.Core.List.{List}
use mathlib.Core.Logic.{◌⊎◌, inl, inr, ⊎_elim}
use native.Mathlib.Nat.{eq-or-lt_of_le}
use native.Mathlib.Omega.{arith}
use borrow.Author.Count.{below_more}
use lib.ListN.{length}
use lib.Seq.{ext_get_or}
use Rattle.basics.proofs.Tests.{below_or}
use Rattle.rules.specs.Problem.{Gives, column, row}
use Rattle.kept.specs.Kept.{put}
use Rattle.kept.proofs.Putting.{other-column, other_row, own-column, own_row}
use Rattle.planner.specs.Order.{Agree, Before, Smaller, NotAfter}

-- ---- places
-- of two places one is before the other, or they are the same
pub places : (a b c r : ℕ) → Before a b c r ⊎ (((a ≡ c) × (b ≡ r)) ⊎ Before c r a b)
places a b c r =
    ⊎_elim
    (λ h. inl (inl h))
    (λ h. ⊎_elim
    (λ e. ⊎_elim
    (λ l. inl (inr (sym e, l)))
    (λ l. ⊎_elim (λ q. inr (inl (sym e, sym q))) (λ q. inr (inr (inr (e, q)))) (eq-or-lt_of_le l))
    (below_or b r))
    (λ l. inr (inr (inl l)))
    (eq-or-lt_of_le h))
    (below_or a c)

before-asym : (a b c r : ℕ) → Before a b c r → Before c r a b → ⊥
before-asym a b c r (inl x) (inl y) = omega arith
before-asym a b c r (inl x) (inr y) = omega arith
before-asym a b c r (inr x) (inl y) = omega arith
before-asym a b c r (inr x) (inr y) = omega arith

-- ---- agreement
pub agree_refl : (v : List ℕ) (k : ℕ) → Agree v v k
agree_refl v k = record { columns-same = λ j l. refl; rows_same = λ j l. refl }

pub agree-none : (v w : List ℕ) → Agree v w 0
agree-none v w = record { columns-same = λ j l. absurd (omega arith); rows_same = λ j l. absurd (omega arith) }

pub agree-sym : {v w : List ℕ} {k : ℕ} → Agree v w k → Agree w v k
agree-sym a = record { columns-same = λ j l. sym (a.columns-same j l); rows_same = λ j l. sym (a.rows_same j l) }

pub agree_trans : {u v w : List ℕ} {k : ℕ} → Agree u v k → Agree v w k → Agree u w k
agree_trans a b = record {
  columns-same = λ j l. a.columns-same j l ∙ b.columns-same j l;
  rows_same = λ j l. a.rows_same j l ∙ b.rows_same j l;
}

pub agree_less : {v w : List ℕ} {k : ℕ} (m : ℕ) → m ≤ k → Agree v w k → Agree v w m
agree_less m h a = record {
  columns-same = λ j l. a.columns-same j (omega arith);
  rows_same = λ j l. a.rows_same j (omega arith);
}

pub agree-more : {v w : List ℕ} {k : ℕ} → Agree v w k → column v k ≡ column w k → row v k ≡ row w k → Agree v w (k + 1)
agree-more {v} {w} {k} a c r = record { columns-same = below_more _ k a.columns-same c; rows_same = below_more _ k a.rows_same r }

-- two proposals of n messages that agree are equal
pub agree-eq : (n : ℕ) (v w : List ℕ) → length v ≡ 2 * n → length w ≡ 2 * n → Agree v w n → v ≡ w
agree-eq n v w lv lw g = ext_get_or 0 v w (lv ∙ sym lw) λ i l.
    ⊎_elim
    (λ h. let e : i ≡ 2 * (i / 2) = omega arith in rw e (g.columns-same (i / 2) (omega arith)))
    (λ h. let e : i ≡ 2 * (i / 2) + 1 = omega arith in rw e (g.rows_same (i / 2) (omega arith)))
    (below_or (i % 2) 1)

-- ---- the order
-- proposals that agree on k messages differ first at a later one
settled : {n : ℕ} {v w : List ℕ} {k : ℕ} (f : Smaller n v w) → Agree v w k → k ≤ f.message
settled {k = k} f g =
    ⊎_elim
    (λ l.
    let c = g.columns-same f.message l in
    let r = g.rows_same f.message l in
    absurd (elim f.before [ inl x ↦ omega arith | inr x ↦ omega arith ]))
    (λ l. l)
    (below_or f.message k)

pub antisym : (n : ℕ) (v w : List ℕ) → NotAfter n v w → NotAfter n w v → Agree v w n
antisym n v w (inl a) y = a
antisym n v w (inr f) (inl b) = agree-sym b
antisym n v w (inr f) (inr g) =
    let a = settled f (agree-sym g.agree) in
    let b = settled g (agree-sym f.agree) in
    let e : f.message ≡ g.message = omega arith in
    absurd (before-asym _ _ _ _ f.before (rw e g.before))

-- it goes by the placements
pub not-after-agree : {v w : List ℕ} (x : List ℕ) {n : ℕ} → Agree v w n → NotAfter n v x → NotAfter n w x
not-after-agree x g (inl a) = inl (agree_trans (agree-sym g) a)
not-after-agree x {n} g (inr f) =
    let j = f.message in
    let l = f.below in
    inr record {
      message = j;
      below = l;
      agree = agree_trans (agree-sym (agree_less j (omega arith) g)) f.agree;
      before = rw (← g.columns-same j l, ← g.rows_same j l) f.before;
    }

-- ---- message k placed at column c and base row r
module _ (v : List ℕ) (k c r : ℕ) where
  pub put_keeps : Agree v (put v k c r) k
  put_keeps = record {
    columns-same = λ j l. sym (other-column v k c r j (λ e. omega arith));
    rows_same = λ j l. sym (other_row v k c r j (λ e. omega arith));
  }

  module _ (room : Gives v k) where
    pub put-column : column (put v k c r) k ≡ c
    put-column = own-column v k c r room

    pub put-row : row (put v k c r) k ≡ r
    put-row = own_row v k c r room

    -- what begins with v's first k, and has message k there, begins with these k + 1
    pub put-agree : {w : List ℕ} → Agree v w k → column w k ≡ c → row w k ≡ r → Agree (put v k c r) w (k + 1)
    put-agree a ec er =
        agree-more (agree_trans (agree-sym put_keeps) a) (put-column ∙ sym ec) (put-row ∙ sym er)
