-- Placements to keep: a list with two words for each message, a placement or 4,294,967,295 twice for none.
use Rattle.std.specs.Prelude.{ℕ, ◌+◌, ◌*◌, ◌<◌, ◌≡◌, Bool, true, ◌||◌, not, List, eqb, set}
use Rattle.rules.specs.Problem.{messages, column, row}

-- the word that stands twice where a message has no placement to keep
abbrev pub none : ℕ
none = 4294967295

-- the list k keeps message j: half a none is a placement, which no message can have
unfoldable pub keeps : List ℕ → ℕ → Bool
keeps k j = not (eqb (column k j) none) || not (eqb (row k j) none)

-- w with message j at column c and base row r
abbrev pub put : List ℕ → ℕ → ℕ → ℕ → List ℕ
put w j c r = set (set w (2 * j) c) (2 * j + 1) r

-- the proposal w has each message that k keeps where k has it
pub record Keeping (p k w : List ℕ) : Type 0 where
  pub columns-same : (j : ℕ) → j < messages p → keeps k j ≡ true → column w j ≡ column k j
  pub rows_same : (j : ℕ) → j < messages p → keeps k j ≡ true → row w j ≡ row k j
