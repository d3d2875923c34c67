-- The messages without a kept placement: how many they are, and which, in file order.
use Rattle.std.specs.Prelude.{ℕ, ◌<◌, ◌≡◌, false, not, List, get_or}
use Rattle.basics.specs.Sums.{sum, only}
use Rattle.kept.specs.Kept.{keeps}

-- how many of the first h messages the list k does not keep
unfoldable pub free_of : List ℕ → ℕ → ℕ
free_of k h = sum h (λ j. only (not (keeps k j)) 1)

-- message j is one of the n in the list m: it has this slot
pub record Slot (m : List ℕ) (n j : ℕ) : Type 0 where
  pub slot : ℕ
  pub among : slot < n
  pub is : get_or m slot 0 ≡ j

-- the first n words of m are the numbers of these messages, as they rise
pub record Free (k : List ℕ) (h : ℕ) (m : List ℕ) (n : ℕ) : Type 0 where
  pub below : (s : ℕ) → s < n → get_or m s 0 < h
  pub not-kept : (s : ℕ) → s < n → keeps k (get_or m s 0) ≡ false
  pub rising : (s t : ℕ) → s < t → t < n → get_or m s 0 < get_or m t 0
  pub all : (j : ℕ) → j < h → keeps k j ≡ false → Slot m n j
