-- Prices on cells: what places cost and what cells are worth by them, and places that the messages cannot pay for.
use Rattle.std.specs.Prelude.{ℕ, ◌+◌, ◌*◌, ◌%◌, ◌<◌, ◌≤◌, ◌≡◌, List, eqb, get_or}
use Rattle.basics.specs.Bits.{bit, Has}
use Rattle.basics.specs.Sums.{sum, only}
use Rattle.rules.specs.Problem.{most_rows, most_columns, rows, messages, repeat}
use Rattle.places.specs.Places.{table_at}

-- ---- prices, costs, worth
-- where the price of the cell in row i and column c stands, and how many there are
abbrev pub cell_at : ℕ → ℕ → ℕ
cell_at i c = most_columns * i + c

abbrev pub most_cells : ℕ
most_cells = most_rows * most_columns

abbrev pub price : List ℕ → ℕ → ℕ → ℕ
price y i c = get_or y (cell_at i c) 0

-- what a place costs: its cells are in column c and, of n rows, in those that are r modulo s
unfoldable pub cost : List ℕ → ℕ → ℕ → ℕ → ℕ → ℕ
cost y n s c r = sum n (λ i. only (eqb (i % s) r) (price y i c))

-- the highest price, and more than any place costs
abbrev pub most_price : ℕ
most_price = 65535

abbrev pub dearest : ℕ
dearest = 4194304

-- x for a digit j of the set s, and else nothing
abbrev pub among : ℕ → ℕ → ℕ → ℕ
among s j x = only (eqb (bit s j) 1) x

-- what the cells in the columns x of row i are worth, and what those of n rows are that have the words of u as their columns
unfoldable pub worth_in : List ℕ → ℕ → ℕ → ℕ
worth_in y i x = sum most_columns (λ c. among x c (price y i c))

unfoldable pub worth : List ℕ → ℕ → List ℕ → ℕ
worth y n u = sum n (λ i. worth_in y i (get_or u i 0))

-- more than the cells of a row are worth, and than all cells are: no sum of prices in 64 bits wraps
abbrev pub row_worth : ℕ
row_worth = 281474976710656

abbrev pub most_worth : ℕ
most_worth = most_rows * row_worth

-- x has each column of row i in which one of the first n messages, of l, may be sent by the table a
pub record JointIn (p a : List ℕ) (l i n x : ℕ) : Type 0 where
  pub has : (j c : ℕ) → j < n → Has l j → Has (get_or a (table_at j (i % repeat p j)) 0) c → Has x c

-- and so has the word of u for each of the first n rows
pub record Joint (p a : List ℕ) (l n : ℕ) (u : List ℕ) : Type 0 where
  pub each : (i : ℕ) → i < n → JointIn p a l i (messages p) (get_or u i 0)

-- ---- sums of prices
-- where that of column c in the rows r, r + s, .. stands, and how many words there are
abbrev pub sum_at : ℕ → ℕ → ℕ → ℕ
sum_at s r c = most_columns * (s + r) + c

abbrev pub most_sums : ℕ
most_sums = 2 * most_cells

-- each sum for the n words from n on is, in y, at most the two for twice as many in x; what stands behind them stays
pub record Halved (n : ℕ) (x y : List ℕ) : Type 0 where
  pub here : (k : ℕ) → k < n → get_or y (n + k) 0 ≤ get_or x (2 * n + k) 0 + get_or x (3 * n + k) 0
  pub kept : (k : ℕ) → 2 * n ≤ k → get_or y k 0 ≡ get_or x k 0

-- no word of x is more than the place of a message costs by the prices y
pub record Sums (p y x : List ℕ) : Type 0 where
  pub each : (j r c : ℕ) → j < messages p → r < repeat p j → c < most_columns → get_or x (sum_at (repeat p j) r c) 0 ≤ cost y (rows p) (repeat p j) c r

-- ---- what messages pay
-- t is at most the sum of each place of message j, sent every s rows, in the table a
pub record Cheap (a x : List ℕ) (j s t : ℕ) : Type 0 where
  pub most : t ≤ dearest
  pub least : (r c : ℕ) → r < s → c < most_columns → Has (get_or a (table_at j r) 0) c → t ≤ get_or x (sum_at s r c) 0

-- v has such a number for each of the first n messages, of l, and t is their sum
pub record Owed (p a x : List ℕ) (l n : ℕ) (v : List ℕ) (t : ℕ) : Type 0 where
  pub each : (j : ℕ) → j < n → Has l j → Cheap a x j (repeat p j) (get_or v j 0)
  pub total : t ≡ sum n (λ j. among l j (get_or v j 0))
  pub most : t ≤ dearest * n

-- z has no column but those of b, and each whose sum, for base row r, makes t at most m
pub record PaidIn (x : List ℕ) (s r t m b z : ℕ) : Type 0 where
  pub only : (c : ℕ) → Has z c → Has b c
  pub keeps : (c : ℕ) → c < most_columns → Has b c → t + get_or x (sum_at s r c) 0 ≤ m → Has z c

-- so has the table b of the places of a, for each message of l, where its own number of v is taken from t
pub record Paid (p x : List ℕ) (l : ℕ) (v : List ℕ) (t m : ℕ) (a b : List ℕ) : Type 0 where
  pub each : (j r : ℕ) → j < messages p → Has l j → r < repeat p j → PaidIn x (repeat p j) r t (m + get_or v j 0) (get_or a (table_at j r) 0) (get_or b (table_at j r) 0)
