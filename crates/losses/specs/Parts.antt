-- What the parts of `figures` ask and hand back.
use Rattle.std.specs.Prelude.{ℕ, zero, suc, ◌+◌, ◌*◌, ◌-◌, ◌<◌, ◌≤◌, ◌≡◌, not, List, eqb}
use Rattle.basics.specs.Sums.{sum, only}
use Rattle.rules.specs.Problem.{most_rows, most_columns, rows, columns, messages, width, lasts}
use Rattle.cells.specs.Table.{number_in}
use Rattle.losses.specs.declared.Tally.{Tally}

-- ---- how long a cell is held, by its number in the table: by no message, or by message j, whose number is j + 1
abbrev pub held_by : List ℕ → ℕ → ℕ
held_by p zero = 0
held_by p (suc j) = lasts p j

-- every number in the table t is that of a message, and no cell is held for longer than it is wide
pub record Fits (p t : List ℕ) : Type 0 where
  pub number-most : (i c : ℕ) → i < rows p → c < columns p → number_in t i c ≤ messages p
  pub each : (i c : ℕ) → i < rows p → c < columns p → held_by p (number_in t i c) ≤ width p c

-- ---- the three figures of the cells: each cell is used, or loses the rest of its width, or is empty
pub data Part : Type 0 where
  used-part : Part
  window-part : Part
  empty-part : Part

-- as a tally has it
abbrev pub part : Part → Tally → ℕ
part used-part r = r.used
part window-part r = r.in_window
part empty-part r = r.empty

-- what a cell adds that is held for x and is so wide, and what the first n cells of row i add
abbrev pub share : Part → ℕ → ℕ → ℕ
share used-part x wide = x
share window-part x wide = only (not (eqb x 0)) (wide - x)
share empty-part x wide = only (eqb x 0) wide

abbrev pub row_share : Part → List ℕ → List ℕ → ℕ → ℕ → ℕ
row_share k p t i n = sum n (λ c. share k (held_by p (number_in t i c)) (width p c))

-- r is the tally s with one such cell added
pub record Added (s : Tally) (x wide : ℕ) (r : Tally) : Type 0 where
  pub each : (k : Part) → part k r ≡ part k s + share k x wide

-- with the first n cells of row i
pub record RowAdded (p t : List ℕ) (i n : ℕ) (s r : Tally) : Type 0 where
  pub each : (k : Part) → part k r ≡ part k s + row_share k p t i n

-- r is the tally of the first n rows
pub record Tallied (p t : List ℕ) (n : ℕ) (r : Tally) : Type 0 where
  pub each : (k : Part) → part k r ≡ sum n (λ i. row_share k p t i (columns p))

-- ---- how large they can be: cycle and widths are 16-bit fields of the file, so the cells of a row, and all, come to no more than this
abbrev pub longest : ℕ
longest = 65535

abbrev pub row_most : ℕ
row_most = most_columns * longest

abbrev pub cells_most : ℕ
cells_most = most_rows * row_most

-- no figure of the tally is more than so much
pub record Small (most : ℕ) (r : Tally) : Type 0 where
  pub used : r.used ≤ most
  pub in_window : r.in_window ≤ most
  pub empty : r.empty ≤ most
