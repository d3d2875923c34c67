-- The words of a cell and of a row, as they are written.
use Rattle.std.proofs.Common.{ℕ, zero, suc, ◌+◌, ◌*◌, ◌-◌, ◌%◌, ◌<◌, ◌≤◌, ◌≡◌, refl, ◌∙◌, List, ◌∷◌, ◌++◌, length, get_or, take, drop, length-append, arith, mul-le-mul}
use borrow.Rule.Slice.PartMut.{put_mid}
use Rattle.basics.specs.Runs.{run, Put}
use Rattle.basics.proofs.Runs.{run-next}
use Rattle.basics.proofs.Sums.{sum-most}
use Rattle.basics.proofs.Written.{Begins, begins, begins-more, room-more, run_room, length-pieces}
use Rattle.rules.specs.Problem.{most_columns, rows, cycle, ref_id, columns, start}
use Rattle.cells.specs.Cells.{cell}
use Rattle.cells.specs.Table.{number_in}
use Rattle.bus_log.specs.Rows.{cell_words, cell_of, cells_of, reference_words, words_of_row, most_rows_due, row_most}

-- ---- a piece more of a run, written by way of the rest of the buffer
module _ (g : ℕ → List ℕ) {n i at : ℕ} {d l : List ℕ} (begun : Begins (run i g) d l at) (below : i < n) (fits : length (run n g) ≤ length d) where
  next-room : length (run (i + 1) g) ≤ length d
  next-room = run_room g n (i + 1) (omega arith) fits

  pub piece-room : length (g i) ≤ length (take (length l - at) (drop at l))
  piece-room = room-more begun (g i) (run-next g i) next-room

  pub piece-written : {ys : List ℕ} {r : ℕ} → Put (g i) (take (length l - at) (drop at l)) ys r → Begins (run (i + 1) g) d (put_mid at (length l - at) l ys) (at + r)
  piece-written put = begins-more begun (g i) (run-next g i) next-room put

-- ---- a cell
module _ (p : List ℕ) where
  -- no words, or a pair
  cell-even : (number time : ℕ) → length (cell_words p number time) % 2 ≡ 0
  cell-even zero time = omega arith
  cell-even (suc j) time = omega arith

  cell-most : (number time : ℕ) → length (cell_words p number time) ≤ 2
  cell-most zero time = omega arith
  cell-most (suc j) time = omega arith

-- pairs one behind the other
pub run-even : (g : ℕ → List ℕ) → ((i : ℕ) → length (g i) % 2 ≡ 0) → (n : ℕ) → length (run n g) % 2 ≡ 0
unfolding run
run-even g each zero = omega arith
run-even g each (suc n) = omega (arith, length-append (run n g) (g n), run-even g each n, each n)

-- ---- the cells of row i
module _ (p t : List ℕ) (i : ℕ) where
  pub cell-read : (c : ℕ) {b r k number s : ℕ} → b ≡ cycle p → r ≡ rows p → k ≡ cell (i % r) c → number ≡ get_or t k 0 → s ≡ start p c → cell_words p number (i * b + s) ≡ cell_of p t i c
  cell-read c eb er ek en es = rw (en, ek, er, eb, es)

  -- the reference message's words come first
  pub row_first : words_of_row p t i ≡ reference_words p i ++ cells_of p t i
  unfolding words_of_row
  row_first = refl

  pub reference-room : (d : List ℕ) → length (words_of_row p t i) ≤ length d → 2 ≤ length d
  unfolding words_of_row
  reference-room d room = omega arith

  pub row-even : length (words_of_row p t i) % 2 ≡ 0
  unfolding words_of_row
  row-even = omega (arith, run-even (cell_of p t i) (λ c. cell-even p (number_in t (i % rows p) c) (i * cycle p + start p c)) (columns p))

  -- the reference message, and at most a send in each column
  pub row-most : columns p ≤ most_columns → length (words_of_row p t i) ≤ row_most
  unfolding words_of_row
  row-most few = omega (arith, length-pieces (cell_of p t i) (columns p), sum-most (columns p) 2 (λ c. length (cell_of p t i c)) (λ c l. cell-most p (number_in t (i % rows p) c) (i * cycle p + start p c)))

-- and so all rows
pub rows-most : (p t : List ℕ) (n : ℕ) → columns p ≤ most_columns → length (run n (words_of_row p t)) ≤ n * row_most
rows-most p t n few = omega (arith, length-pieces (words_of_row p t) n, sum-most n row_most (λ i. length (words_of_row p t i)) (λ i l. row-most p t i few))

pub reference-begins : (p : List ℕ) (i : ℕ) {d e : List ℕ} {b r : ℕ} → b ≡ cycle p → r ≡ ref_id p → e ≡ i * b ∷ r ∷ drop 2 d → 2 ≤ length d → Begins (reference_words p i) d e 2
reference-begins p i eb er is room = begins (record { count = refl; is = is ∙ rw (eb, er) }) room

-- no row of a span begins later
pub begin-most : {i b : ℕ} → i < most_rows_due → b ≤ 65535 → i * b ≤ most_rows_due * 65535
begin-most l m = mul-le-mul {n₂ = most_rows_due} {m₂ = 65535} (omega arith) m
