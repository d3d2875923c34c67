-- The tally of the cells, cell by cell and row by row, and its bounds.
use Prim.Native.Nat.{ℕ, ◌+◌, ◌*◌, ◌-◌, ◌≤◌, ◌<◌}
use mathlib.Core.Path.{◌≡◌, sym, ap, ◌∙◌}
use mathlib.Core.Bool.{not}
use mathlib.Core.List.{List}
use native.Mathlib.Omega.{arith}
use lib.Dec.{eqb}
use lib.ListN.{get_or}
use Rattle.basics.specs.Sums.{sum}
use Rattle.basics.proofs.Sums.{sum-next, sum-most, only-most}
use Rattle.rules.specs.Problem.{rows, columns, messages, width, WellFormed}
use Rattle.proposal.specs.Accepted.{Accepted}
use Rattle.cells.specs.Cells.{cell}
use Rattle.cells.specs.Table.{number_in, Table}
use Rattle.cells.proofs.Owners.{number-most, holder}
use Rattle.losses.specs.declared.Tally.{Tally}
use Rattle.losses.specs.Parts.{held_by, Fits, Part, used-part, window-part, empty-part, part, share, row_share, Added, RowAdded, Tallied, longest, row_most, cells_most, Small}
use Rattle.losses.proofs.Terms.{over-same}
use Rattle.losses.proofs.Cells.{cell-is}
use Rattle.losses.proofs.Sum.{figure, figure-cells}

-- ---- one cell
share-most : (k : Part) (x wide : ℕ) → x ≤ wide → share k x wide ≤ wide
share-most used-part x wide h = h
share-most window-part x wide h = omega (arith, only-most (not (eqb x 0)) (wide - x))
share-most empty-part x wide h = only-most (eqb x 0) wide

-- ---- small figures, part by part
small : {most : ℕ} {r : Tally} → ((k : Part) → part k r ≤ most) → Small most r
small h = record { used = h used-part; in_window = h window-part; empty = h empty-part }

part_small : {most : ℕ} {r : Tally} → Small most r → (k : Part) → part k r ≤ most
part_small h used-part = h.used
part_small h window-part = h.in_window
part_small h empty-part = h.empty

-- ---- one row
-- how long a cell is held, by the number that was read of it
pub held-read : (p t : List ℕ) (i c : ℕ) {x n m : ℕ} → x ≡ held_by p n → n ≡ get_or t m 0 → m ≡ cell i c → x ≡ held_by p (number_in t i c)
held-read p t i c e f g = rw (← g, ← f) e

module _ {p t : List ℕ} {i : ℕ} where
  pub row-none : {s : Tally} → RowAdded p t i 0 s s
  unfolding sum
  row-none = record { each = λ k. omega arith }

  pub row_more : {n x wide : ℕ} {s r q : Tally} → RowAdded p t i n s r → x ≡ held_by p (number_in t i n) → wide ≡ width p n → Added r x wide q → RowAdded p t i (n + 1) s q
  row_more {n} h ex ew a =
      let cell = rw (ex, ew) at a in
      record { each = λ k. omega (arith, h.each k, cell.each k, sum-next n (λ c. share k (held_by p (number_in t i c)) (width p c))) }

-- what cells of a row add at most
module _ {p t : List ℕ} (wf : WellFormed p) (f : Fits p t) where
  row-most : (i : ℕ) → i < rows p → (n : ℕ) → n ≤ columns p → (k : Part) → row_share k p t i n ≤ n * longest
  row-most i li n ln k =
      sum-most n longest (λ c. share k (held_by p (number_in t i c)) (width p c))
      (λ c l. omega (arith, share-most k (held_by p (number_in t i c)) (width p c) (f.each i c li (omega arith)), (wf.column c (omega arith)).width-most))

  pub row_small : {i n : ℕ} {s r : Tally} → i < rows p → n < columns p → Small (i * row_most) s → RowAdded p t i n s r → Small cells_most r
  row_small {i} {n} li ln s h =
      let most = wf.header.columns-most in
      let many = wf.header.rows-most in
      small (λ k. omega (arith, h.each k, part_small s k, row-most i li n (omega arith) k))

  pub tallied-small : {n : ℕ} {r : Tally} → n ≤ rows p → Tallied p t n r → Small (n * row_most) r
  tallied-small {n} l h =
      let most = wf.header.columns-most in
      small (λ k. omega (
        arith,
        h.each k,
        sum-most n row_most (λ i. row_share k p t i (columns p)) (λ i li. omega (arith, row-most i (omega arith) (columns p) (omega arith) k)),
      ))

  all_small : {r : Tally} → Tallied p t (rows p) r → Small cells_most r
  all_small h = let many = wf.header.rows-most in small (λ k. omega (arith, part_small (tallied-small (omega arith) h) k))

-- ---- all rows
module _ {p t : List ℕ} where
  pub tallied-none : {r : Tally} → r.used ≡ 0 → r.in_window ≡ 0 → r.empty ≡ 0 → Tallied p t 0 r
  unfolding sum
  tallied-none {r} a b c = record { each = go }
    where
      go : (k : Part) → part k r ≡ sum 0 (λ i. row_share k p t i (columns p))
      go used-part = a
      go window-part = b
      go empty-part = c

  pub tallied-more : {n : ℕ} {r q : Tally} → Tallied p t n r → RowAdded p t n (columns p) r q → Tallied p t (n + 1) q
  tallied-more {n} h a = record { each = λ k. omega (arith, h.each k, a.each k, sum-next n (λ i. row_share k p t i (columns p))) }

-- ---- the table of an accepted proposal fits, and its tally has the three figures of the cells
module _ {p w t : List ℕ} (a : Accepted p w) (b : Table p w (messages p) t) where
  pub table_fits : Fits p t
  table_fits = record {
    number-most = λ i c li lc. number-most (holder a b i c li lc);
    each = λ i c li lc. rw (b.each i c li lc) (cell-is a i c li lc).held-most;
  }

  pub tally-small : {r : Tally} → Tallied p t (rows p) r → Small cells_most r
  tally-small h = all_small a.formed table_fits h

  pub tally-is : {r : Tally} → Tallied p t (rows p) r → (k : Part) → part k r ≡ figure k p w
  tally-is h k = h.each k ∙ over-same p _ _ (λ i c li lc. ap (λ (x : ℕ). share k (held_by p x) (width p c)) (b.each i c li lc)) ∙ sym (figure-cells a k)
