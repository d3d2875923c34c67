-- The table of cells: for each the number, counted from 1, of the message that starts there, and 0 where none does.
use Rattle.std.specs.Prelude.{ℕ, suc, ◌<◌, ◌≡◌, List, length, get_or}
use Rattle.basics.specs.Strides.{Strode}
use Rattle.basics.specs.Sums.{sum, only}
use Rattle.rules.specs.Problem.{rows, columns}
use Rattle.cells.specs.Cells.{starts_at, cells, cell}

-- what the table t says of row i and column c
abbrev pub number_in : List ℕ → ℕ → ℕ → ℕ
number_in t i c = get_or t (cell i c) 0

-- the number of the one that starts there, of the first n messages: in an accepted proposal no two do
unfoldable pub starting : List ℕ → List ℕ → ℕ → ℕ → ℕ → ℕ
starting p w n i c = sum n (λ j. only (starts_at p w j i c) (suc j))

-- the table t says so, for every cell
pub record Table (p w : List ℕ) (n : ℕ) (t : List ℕ) : Type 0 where
  pub long : length t ≡ cells
  pub each : (i c : ℕ) → i < rows p → c < columns p → number_in t i c ≡ starting p w n i c

-- whatever a word was, it is x then
abbrev pub Becomes : ℕ → ℕ → ℕ → Type 0
Becomes x old new = new ≡ x

-- t' is t with x in column c of each row r + k · step below `rows`, and nowhere else
abbrev pub Marked : List ℕ → ℕ → ℕ → ℕ → ℕ → ℕ → List ℕ → Type 0
Marked t c r step rows x t' = Strode (Becomes x) (λ (i : ℕ). cell i c) r step rows t t'
