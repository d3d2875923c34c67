-- The columns of the places of a message, one by one, lowest first: what is known of those passed.
use Rattle.std.proofs.Common.{◌≡◌, ℕ, zero, suc, ◌+◌, ◌/◌, ◌%◌, ◌<◌, ◌≤◌, List, get_or, arith, below_more, inr, ⊎_elim, subst, sym}
use Rattle.std.specs.Int.Count.{count_trailing_zeros}
use Rattle.std.specs.Int.Bits.{bit_or}
use native.Mathlib.Decide.{ℕ_discrete}
use Rattle.basics.specs.Bits.{bit, Has, Lowest}
use Rattle.basics.proofs.Bits.{has-none, or_left, or_right}
use Rattle.basics.proofs.Tests.{below_or}
use Rattle.rules.specs.Problem.{most_columns, messages, repeat, column, row}
use Rattle.rules.proofs.Meaning.{stands}
use Rattle.places.specs.Places.{table_at}
use Rattle.planner.specs.Order.{Agree}
use Rattle.planner.specs.Search.{Columns, Fitting, Nowhere}
use Rattle.planner.proofs.Gone.{Gone}

-- the lowest digit is below each other
lowest-least : (k z d : ℕ) → Has z d → count_trailing_zeros k z ≤ d
unfolding bit count_trailing_zeros
lowest-least zero z d g = omega arith
lowest-least (suc k) z zero g = rw g (omega arith)
lowest-least (suc k) z (suc d) g =
    ⊎_elim
    (λ (l : z % 2 < 1). let e : z % 2 ≡ 0 = omega arith in rw e (let i = lowest-least k (z / 2) d g in omega arith))
    (λ (l : 1 ≤ z % 2). let e : z % 2 ≡ 1 = omega arith in rw e (omega arith))
    (below_or (z % 2) 1)

-- ---- the columns in which a message has a place: one base row more
pub columns-more : {t : List ℕ} {j n x at : ℕ} → at ≡ table_at j n → Columns t j n x → Columns t j (n + 1) (bit_or x (get_or t at 0))
columns-more {t} {j} {n} {x} {at} e C = record {
  has = λ r c l g. below_more (λ r. Has (get_or t (table_at j r) 0) c → Has (bit_or x (get_or t at 0)) c) n
      (λ r l h. or_left x _ c (C.has r c l h))
      (λ h. or_right x _ c (subst (λ (i : ℕ). Has (get_or t i 0) c) (sym e) h))
      r l g;
}

-- ---- none of the proposals A that begin with v's first k has message k in a column that is not in x
pub record Passed (A : List ℕ → Type 0) (k : ℕ) (v : List ℕ) (x : ℕ) : Type 0 where
  pub none : (w : List ℕ) → A w → Agree v w k → (Has x (column w k) → ⊥) → ⊥

-- nor, but for column c, before base row r there
pub record Turn (A : List ℕ → Type 0) (k : ℕ) (v : List ℕ) (x c r : ℕ) : Type 0 where
  pub gone : Gone A k v c r
  pub others : (w : List ℕ) → A w → Agree v w k → (Has x (column w k) → ⊥) → column w k ≡ c

-- at the start these are all
pub passed-start : {p t v : List ℕ} {k n x : ℕ} → k < messages p → n ≡ repeat p k → Columns t k n x → Passed (Fitting p t k) k v x
passed-start {k = k} l e C = record { none = λ w W g out. out (C.has (row w k) (column w k) (rw e (stands W.stands k l).row_below) (W.inside k (omega arith) l)) }

module _ {A : List ℕ → Type 0} {k : ℕ} {v : List ℕ} where
  -- the lowest is next
  pub turn-start : {x c y : ℕ} → ((w : List ℕ) → A w → column w k < most_columns) → Lowest x c y → Passed A k v x → Turn A k v y c 0
  turn-start {x} {c} {y} low L P = record {
    gone = record {
      none = λ w W g b. ⊎_elim
          (λ l. P.none w W g (λ h. let least = lowest-least 32 x (column w k) h in omega (arith, least, L.is)))
          (λ q. omega (arith, q.1))
          b;
    };
    others = λ w W g out. elim (ℕ_discrete (column w k) c) [
      | yes e ↦ e
      | no d ↦ absurd (P.none w W g (λ h. out (L.rest.keeps (column w k) (low w W) d h)))
    ];
  }

  -- it has no more places
  pub turn-end : {x c r n : ℕ} → ((w : List ℕ) → A w → row w k < n) → n ≤ r → Turn A k v x c r → Passed A k v x
  turn-end low end T = record { none = λ w W g out. T.gone.none w W g (inr (T.others w W g out, omega (arith, low w W))) }

  -- there is none
  pub passed-all : {x : ℕ} → x ≡ 0 → Passed A k v x → Nowhere A k v
  passed-all {x} e P = record { none = λ w W g. P.none w W g (λ h. has-none (column w k) (rw e at h)) }
