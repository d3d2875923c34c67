-- Where the bus time of one matrix cycle goes: five figures, each by its own rule, over the sends and the cells of one matrix cycle.
use Rattle.std.specs.Prelude.{ℕ, ◌+◌, ◌*◌, ◌-◌, ◌≡◌, Bool, ◌&&◌, ◌||◌, not, List, leb, ltb}
use Rattle.basics.specs.Sums.{sum, only}
use Rattle.basics.specs.Tests.{some}
use Rattle.rules.specs.Paper.{figure_for}
use Rattle.rules.specs.Problem.{rows, cycle, matrix, ref_len, columns, messages, start, width, lasts}
use Rattle.rules.specs.Sends.{send_at}
use Rattle.rules.specs.Refusal.{Fault}
use Rattle.cells.specs.Cells.{starts_at, occupied}
use Rattle.losses.specs.declared.BusTime.{BusTime}

-- ---- reference: R · f
abbrev pub reference : List ℕ → ℕ
reference p = rows p * ref_len p

-- ---- used: the sum of C over all sends that start in the cycle; each is one of the first R of its message (theorem early-sends, and used_all: no other is missed)
unfoldable pub used : List ℕ → List ℕ → ℕ
used p w = sum (messages p) (λ j. sum (rows p) (λ n. only (ltb (send_at p w j n) (matrix p)) (lasts p j)))

-- ---- a figure of every cell, summed
abbrev pub over_cells : List ℕ → (ℕ → ℕ → ℕ) → ℕ
over_cells p f = sum (rows p) (λ i. sum (columns p) (f i))

-- ---- in-window: the sum of width minus C over occupied cells, C that of the send that starts there
unfoldable pub window_loss : List ℕ → List ℕ → ℕ
window_loss p w = over_cells p (λ i c. sum (messages p) (λ j. only (starts_at p w j i c) (width p c - lasts p j)))

-- ---- empty: the widths of unoccupied cells
unfoldable pub empty : List ℕ → List ℕ → ℕ
empty p w = over_cells p (λ i c. only (not (occupied p w i c)) (width p c))

-- ---- gaps: R times what neither reference nor columns cover of a row
unfoldable pub in_column : List ℕ → ℕ → ℕ → Bool
in_column p y c = leb (start p c) y && ltb y (start p c + width p c)

unfoldable pub covered : List ℕ → ℕ → Bool
covered p y = ltb y (ref_len p) || some (columns p) (in_column p y)

unfoldable pub uncovered : List ℕ → ℕ
uncovered p = sum (cycle p) (λ y. only (not (covered p y)) 1)

abbrev pub gaps : List ℕ → ℕ
gaps p = rows p * uncovered p

-- ---- t has the five figures of the proposal w for p, and where x is a refusal 0 for each
pub record FiguresAre (x : Fault) (p w : List ℕ) (t : BusTime) : Type 0 where
  pub reference-is : t.reference ≡ figure_for x (reference p)
  pub used-is : t.used ≡ figure_for x (used p w)
  pub in-window-is : t.in_window ≡ figure_for x (window_loss p w)
  pub empty-is : t.empty ≡ figure_for x (empty p w)
  pub gaps-is : t.gaps ≡ figure_for x (gaps p)
