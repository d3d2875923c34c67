-- The words of the sends row by row, as a table of cells has them.
use Rattle.std.specs.Prelude.{ℕ, zero, suc, ◌+◌, ◌*◌, ◌%◌, ◌<◌, ◌≤◌, ◌≡◌, List, [], ◌∷◌, ◌++◌, length}
use Rattle.basics.specs.Runs.{run}
use Rattle.rules.specs.Problem.{most_rows, most_columns, most_messages, rows, cycle, ref_id, columns, messages, start, identifier, WellFormed}
use Rattle.cells.specs.Cells.{cells}
use Rattle.cells.specs.Table.{number_in}
use Rattle.bus_log.specs.Span.{most_span}

-- of a cell with a message's number, counted from 1, and 0 where none starts there
abbrev pub cell_words : List ℕ → ℕ → ℕ → List ℕ
cell_words p zero time = []
cell_words p (suc j) time = time ∷ identifier p j ∷ []

-- of row i, counted from time 0 on: the matrix has it as row i modulo R; column c, all columns, and the reference message before them
abbrev pub cell_of : List ℕ → List ℕ → ℕ → ℕ → List ℕ
cell_of p t i c = cell_words p (number_in t (i % rows p) c) (i * cycle p + start p c)

abbrev pub cells_of : List ℕ → List ℕ → ℕ → List ℕ
cells_of p t i = run (columns p) (cell_of p t i)

abbrev pub reference_words : List ℕ → ℕ → List ℕ
reference_words p i = i * cycle p ∷ ref_id p ∷ []

unfoldable pub words_of_row : List ℕ → List ℕ → ℕ → List ℕ
words_of_row p t i = reference_words p i ++ cells_of p t i

-- ---- how much it can be
-- no matrix cycle is longer, as the basic cycle is a 16-bit field of the file, and none has more sends than the reference message and every message in every row
abbrev pub matrix_most : ℕ
matrix_most = most_rows * 65535

abbrev pub cycle_most : ℕ
cycle_most = (1 + most_messages) * most_rows

-- no row has more words, and no span more rows
abbrev pub row_most : ℕ
row_most = 2 * (1 + most_columns)

abbrev pub most_rows_due : ℕ
most_rows_due = most_rows * most_span

-- the table t has numbers of messages of p
pub record Numbered (p t : List ℕ) : Type 0 where
  pub formed : WellFormed p
  pub long : length t ≡ cells
  pub each : (i c : ℕ) → i < rows p → c < columns p → number_in t i c ≤ messages p
