-- Which cells of the matrix a message has.
use Rattle.std.specs.Prelude.{ℕ, ◌+◌, ◌*◌, ◌≡◌, List}
use Rattle.rules.specs.Problem.{repeat, column, row}

-- message j has the cell of row i and column c: it stands in that column, and one of its turns falls on that row
pub record Here (p w : List ℕ) (j i c : ℕ) : Type 0 where
  pub same-column : column w j ≡ c
  pub turn : ℕ
  pub same_row : row w j + turn * repeat p j ≡ i
