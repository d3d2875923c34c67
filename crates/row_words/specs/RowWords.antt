-- Row words: for each row of the matrix the columns that messages have taken, as one word with a digit for each column.
use Rattle.std.specs.Prelude.{ℕ, ◌+◌, ◌*◌, ◌<◌, ◌≡◌, Bool, true, List, ◌↔◌, length, get_or}
use Rattle.basics.specs.Bits.{Has, Joined}
use Rattle.basics.specs.Strides.{Strode}
use Rattle.rules.specs.Cells.{Here}
use Rattle.rules.specs.Problem.{most_rows, most_columns, rows}

-- one of the first n messages has the cell of row i and column c
pub record Taken (p w : List ℕ) (n i c : ℕ) : Type 0 where
  pub by : ℕ
  pub among : by < n
  pub here : Here p w by i c

-- the words t say so: a cell is set exactly where one of them has it
pub record RowWords (p w : List ℕ) (n : ℕ) (t : List ℕ) : Type 0 where
  pub long : length t ≡ most_rows
  pub each : (i c : ℕ) → i < rows p → Has (get_or t i 0) c ↔ Taken p w n i c

-- ---- what setting column c in the rows r, r + step, .. does
-- it was set in one of them
pub record SetBefore (t : List ℕ) (c r step rows : ℕ) : Type 0 where
  pub turn : ℕ
  pub low : r + turn * step < rows
  pub set : Has (get_or t (r + turn * step) 0) c

-- z has exactly the columns of x that y does not have
pub record Without (x y z : ℕ) : Type 0 where
  pub keeps : (c : ℕ) → c < most_columns → Has x c → (Has y c → ⊥) → Has z c
  pub only : (c : ℕ) → Has z c → Has x c
  pub gone : (c : ℕ) → c < most_columns → Has z c → Has y c → ⊥

-- y has exactly the columns of x that were not
pub record FreeIn (t : List ℕ) (r step rows x y : ℕ) : Type 0 where
  pub keeps : (c : ℕ) → c < most_columns → Has x c → (SetBefore t c r step rows → ⊥) → Has y c
  pub only : (c : ℕ) → Has y c → Has x c
  pub unset : (c : ℕ) → c < most_columns → Has y c → SetBefore t c r step rows → ⊥

-- t' is t with it set there, and nowhere else; b says whether it was before
pub record Occupied (t : List ℕ) (c r step rows : ℕ) (t' : List ℕ) (b : Bool) : Type 0 where
  pub marked : Strode (λ (x : ℕ). Joined x c) (λ (i : ℕ). i) r step rows t t'
  pub before : (b ≡ true) ↔ SetBefore t c r step rows
