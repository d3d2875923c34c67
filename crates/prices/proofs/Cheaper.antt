-- Laws of the cheapest place of a message: the columns of a row are passed one by one, lowest first.
use Prim.Native.Nat.{ℕ, ◌+◌, ◌<◌, ◌≤◌}
use mathlib.Core.Path.{◌≡◌}
use mathlib.Core.List.{List}
use mathlib.Core.Logic.{◌⊎◌, ⊎_elim}
use borrow.Author.Count.{below_more}
use lib.ListN.{get_or}
use Rattle.basics.specs.Bits.{Has}
use Rattle.basics.proofs.Bits.{has-none}
use Rattle.rules.specs.Problem.{most_columns}
use Rattle.places.specs.Places.{table_at}
use Rattle.prices.specs.Prices.{dearest, sum_at}

-- t is at most the sum of each place of message j with one of the first n base rows
pub record Low (a x : List ℕ) (j s n t : ℕ) : Type 0 where
  pub most : t ≤ dearest
  pub least : (r c : ℕ) → r < n → c < most_columns → Has (get_or a (table_at j r) 0) c → t ≤ get_or x (sum_at s r c) 0

-- and of each with base row r and a column that is not in z
pub record LowIn (a x : List ℕ) (j s r t z : ℕ) : Type 0 where
  pub least : (c : ℕ) → c < most_columns → Has (get_or a (table_at j r) 0) c → Has z c ⊎ (t ≤ get_or x (sum_at s r c) 0)

module _ (a x : List ℕ) (j s : ℕ) where
  pub low-next : {n t z : ℕ} → z ≡ 0 → LowIn a x j s n t z → Low a x j s n t → Low a x j s (n + 1) t
  low-next {n} e I L = record {
    most = L.most;
    least = λ r c l. below_more (λ r. c < most_columns → Has (get_or a (table_at j r) 0) c → _ ≤ get_or x (sum_at s r c) 0) n
        (λ r l. L.least r c l)
        (λ k h. ⊎_elim (λ g. absurd (has-none c (rw e at g))) (λ g. g) (I.least c k h))
        r l;
  }
