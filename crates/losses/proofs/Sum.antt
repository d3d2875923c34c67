-- The theorem: the five losses of an accepted proposal sum to the matrix cycle.
use Prim.Native.Nat.{ℕ, zero, suc, ◌+◌, ◌*◌, ◌≤◌}
use mathlib.Core.Path.{◌≡◌, ap}
use mathlib.Core.List.{List}
use native.Mathlib.Omega.{arith}
use lib.Dec.{eqb-suc-zero}
use Rattle.basics.specs.Sums.{sum}
use Rattle.basics.proofs.Sums.{sum-each}
use Rattle.rules.specs.Problem.{rows, matrix, columns, width}
use Rattle.proposal.specs.Accepted.{Accepted}
use Rattle.losses.specs.Losses.{reference, used, window_loss, empty, gaps, over_cells}
use Rattle.losses.specs.Parts.{Part, used-part, window-part, empty-part, share}
use Rattle.losses.proofs.Terms.{over_add, over-same}
use Rattle.losses.proofs.Cells.{held, cell-is, used-cells}
use Rattle.losses.proofs.Gaps.{row-parts}

-- a cell that is held for x of its width: used, lost and empty make up the width
whole-cell : (x wide : ℕ) → x ≤ wide → share used-part x wide + share window-part x wide + share empty-part x wide ≡ wide
whole-cell zero wide h = omega arith
whole-cell (suc x) wide h = rw (eqb-suc-zero x) (omega arith)

-- the figure of the promise that each part of the cells is
abbrev pub figure : Part → List ℕ → List ℕ → ℕ
figure used-part p w = used p w
figure window-part p w = window_loss p w
figure empty-part p w = empty p w

module _ {p w : List ℕ} (a : Accepted p w) where
  -- what each cell adds to part k
  abbrev shares : Part → ℕ → ℕ → ℕ
  shares k i c = share k (held a i c) (width p c)

  pub figure-cells : (k : Part) → figure k p w ≡ over_cells p (shares k)
  unfolding window_loss empty
  figure-cells used-part = used-cells a
  figure-cells window-part = over-same p _ _ (λ i c l m. (cell-is a i c l m).lost-is)
  figure-cells empty-part = over-same p _ _ (λ i c l m. (cell-is a i c l m).empty-is)

  all-cells : used p w + window_loss p w + empty p w ≡ rows p * sum (columns p) (width p)
  all-cells =
      let used-lost : ℕ → ℕ → ℕ = λ i c. shares used-part i c + shares window-part i c in
      let both : over_cells p used-lost ≡ over_cells p (shares used-part) + over_cells p (shares window-part) = over_add p (shares used-part) (shares window-part) in
      let all : over_cells p (λ i c. used-lost i c + shares empty-part i c) ≡ over_cells p used-lost + over_cells p (shares empty-part) = over_add p used-lost (shares empty-part) in
      let full : over_cells p (λ i c. used-lost i c + shares empty-part i c) ≡ over_cells p (λ i c. width p c) = over-same p _ _ (λ i c l m. whole-cell (held a i c) (width p c) (cell-is a i c l m).held-most) in
      omega (arith, figure-cells used-part, figure-cells window-part, figure-cells empty-part, sum-each (rows p) (sum (columns p) (width p)))

  pub losses-sum : reference p + used p w + window_loss p w + empty p w + gaps p ≡ matrix p
  losses-sum = omega (arith, all-cells, ap (rows p *◌) (row-parts a.formed))
