-- Which of two proposals comes first: they compare message by message in file order, smaller column first, then smaller base row.
use Rattle.std.specs.Prelude.{ℕ, ◌<◌, ◌≡◌, List, ◌⊎◌}
use Rattle.rules.specs.Problem.{column, row}

-- v and w place the first k messages alike
pub record Agree (v w : List ℕ) (k : ℕ) : Type 0 where
  pub columns-same : (j : ℕ) → j < k → column v j ≡ column w j
  pub rows_same : (j : ℕ) → j < k → row v j ≡ row w j

-- column a and base row b come before column c and base row r
abbrev pub Before : ℕ → ℕ → ℕ → ℕ → Type 0
Before a b c r = (a < c) ⊎ ((a ≡ c) × (b < r))

-- the first of n messages that v and w place differently comes before in v
pub record Smaller (n : ℕ) (v w : List ℕ) : Type 0 where
  pub message : ℕ
  pub below : message < n
  pub agree : Agree v w message
  pub before : Before (column v message) (row v message) (column w message) (row w message)

-- v is not after w
abbrev pub NotAfter : ℕ → List ℕ → List ℕ → Type 0
NotAfter n v w = Agree v w n ⊎ Smaller n v w
