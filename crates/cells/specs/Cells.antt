-- The cells of the matrix: which sends start in which.
use Rattle.std.specs.Prelude.{ℕ, ◌+◌, ◌*◌, Bool, List, eqb}
use Rattle.basics.specs.Tests.{some}
use Rattle.rules.specs.Problem.{most_rows, most_columns, rows, cycle, messages, start}
use Rattle.rules.specs.Sends.{send_at}

-- a send of message j starts at the cell of row i and column c; a cell is occupied if some send starts there
unfoldable pub starts_at : List ℕ → List ℕ → ℕ → ℕ → ℕ → Bool
starts_at p w j i c = some (rows p) (λ n. eqb (send_at p w j n) (i * cycle p + start p c))

unfoldable pub occupied : List ℕ → List ℕ → ℕ → ℕ → Bool
occupied p w i c = some (messages p) (λ j. starts_at p w j i c)

-- no matrix has more cells; row by row, that of row i and column c stands there
abbrev pub cells : ℕ
cells = most_rows * most_columns

abbrev pub cell : ℕ → ℕ → ℕ
cell i c = most_columns * i + c
