-- The walk that finds such a set: what it asks of some messages, and how it drops one.
use Rattle.std.specs.Prelude.{ℕ, ◌<◌, ◌≤◌, ◌≡◌, Bool, true, false, List, length, get_or}
use Rattle.rest.specs.Free.{Slot}
use Rattle.crowd.specs.Crowd.{Together, Crowded, Among}

-- whether the messages whose numbers are the first n words of m have a plan together
abbrev pub DecidesTogether : List ℕ → List ℕ → ℕ → Bool → Type 0
DecidesTogether p m n true = Together p m n
DecidesTogether p m n false = Crowded p m n

-- the first n words of m are 0, 1, 2 and so on
pub record Counts (m : List ℕ) (n : ℕ) : Type 0 where
  pub each : (s : ℕ) → s < n → get_or m s 0 ≡ s

-- the first n words of m are each above those before
abbrev pub Rises : List ℕ → ℕ → Type 0
Rises m n = (s t : ℕ) → s < t → t < n → get_or m s 0 < get_or m t 0

-- k has the first n words of m but those that are j, and rises where m does
pub record Without (m : List ℕ) (n j : ℕ) (k : List ℕ) : Type 0 where
  pub few : length k ≤ n
  pub among : Among k (length k) m n
  pub lacks : (s : ℕ) → s < length k → get_or k s 0 ≡ j → ⊥
  pub all : (s : ℕ) → s < n → (get_or m s 0 ≡ j → ⊥) → Slot k (length k) (get_or m s 0)
  pub rising : Rises m n → Rises k (length k)
