-- How far a log has been read, which is read in pieces.
use Rattle.std.specs.Prelude.{ℕ, ◌+◌, ◌≤◌, ◌≡◌, List, length, take}

-- xs has n items in front (the second part follows from the first, and tells the length of what a caller takes)
abbrev pub IsFront : {A : Type 0} → ℕ → List A → Type 0
IsFront n xs = (n ≤ length xs) × (n ≡ length (take n xs))

-- no log has so many bytes
abbrev pub most_bytes : ℕ
most_bytes = 4294967296

-- `held` bytes of the buffer b and `count` words of the buffer w are in use, behind so many lines, where `left` bytes more are allowed
pub record Reached (b w : List ℕ) (held count lines left : ℕ) : Type 0 where
  pub bytes : held ≤ length b
  pub words : count ≤ length w
  pub room : lines + held + left ≤ most_bytes
