-- The table of cells, filled mark by mark.
use Prim.Native.Nat.{ℕ, suc, ◌+◌, ◌*◌, ◌≤◌, ◌<◌}
use mathlib.Core.Path.{◌≡◌, refl, ◌∙◌}
use mathlib.Core.Bool.{Bool, true, false}
use mathlib.Core.List.{List}
use native.Mathlib.Omega.{arith}
use lib.ListN.{replicate, length-replicate, get_or-replicate}
use Rattle.basics.specs.Sums.{sum, only}
use Rattle.basics.proofs.Sums.{sum-next}
use Rattle.basics.proofs.Tests.{not-both}
use Rattle.rules.specs.Problem.{most_columns, rows, columns, messages, repeat, column, row, WellFormed}
use Rattle.proposal.specs.Accepted.{Accepted}
use Rattle.cells.specs.Cells.{starts_at, cells, cell}
use Rattle.cells.specs.Table.{number_in, starting, Table, Marked}
use Rattle.cells.proofs.Starts.{at, starts-here, here-starts, none_here, one-holder, no-term}

-- ---- message by message
module _ {p w : List ℕ} (a : Accepted p w) where
  pub table_more : {j : ℕ} {t t' : List ℕ} → j < messages p → Table p w j t → Marked t (column w j) (row w j) (repeat p j) (rows p) (suc j) t' → Table p w (j + 1) t'
  unfolding starting
  table_more {j} {t} {t'} l b m = record { long = m.long ∙ b.long; each = λ i c li lc. go i c li lc (starts_at p w j i c) refl }
    where
      few : columns p ≤ most_columns
      few = a.formed.header.columns-most

      none_before : (i c : ℕ) → c < columns p → starts_at p w j i c ≡ true → (k : ℕ) → k < j → starts_at p w k i c ≡ false
      none_before i c lc e k lk =
          none_here a k i c (omega arith) lc (λ h. let same = one-holder a k j i c (omega arith) l h (starts-here a j i c l lc e) in omega arith)

      go : (i c : ℕ) → i < rows p → c < columns p → (x : Bool) → starts_at p w j i c ≡ x → number_in t' i c ≡ sum (j + 1) (λ k. only (starts_at p w k i c) (suc k))
      go i c li lc true e =
          let h = starts-here a j i c l lc e in
          let q : cell i c ≡ cell (row w j + h.turn * repeat p j) (column w j) = omega (arith, h.same_row, h.same-column) in
          let free = no-term a i c j suc lc (omega arith) (none_before i c lc e) in
          rw (q, m.here h.turn (omega (arith, h.same_row)), sum-next j (λ k. only (starts_at p w k i c) (suc k)), free, e) (omega arith)
      go i c li lc false e =
          let other = m.elsewhere (cell i c) (λ n ln q. not-both (here-starts a j i c l li record { same-column = omega (arith, (at a j l).placed); turn = n; same_row = omega (arith, (at a j l).placed) }) e) in
          rw (other, b.each i c li lc, sum-next j (λ k. only (starts_at p w k i c) (suc k)), e) (omega arith)

  -- the same from a message's words as they were read
  pub table_step : {j c r step n x : ℕ} {t t' : List ℕ} → j < messages p → Table p w j t → c ≡ column w j → r ≡ row w j → step ≡ repeat p j → n ≡ rows p
      → x ≡ suc j → Marked t c r step n x t' → Table p w (j + 1) t'
  table_step l b ec er es en ex m = table_more l b (rw (ec, er, es, en, ex) at m)

-- the table starts with no number in any cell
pub table_none : (p w : List ℕ) → WellFormed p → Table p w 0 (replicate cells 0)
unfolding starting sum
table_none p w wf = record {
  long = length-replicate {A = ℕ} cells 0;
  each = λ i c li lc. get_or-replicate {A = ℕ} cells (cell i c) 0 0 (omega (arith, wf.header.columns-most, wf.header.rows-most));
}
