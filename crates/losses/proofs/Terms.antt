-- Sums over all cells.
use Prim.Native.Nat.{ℕ, ◌+◌, ◌<◌}
use mathlib.Core.Path.{◌≡◌, ◌∙◌}
use mathlib.Core.List.{List}
use Rattle.basics.specs.Sums.{sum}
use Rattle.basics.proofs.Sums.{sum_same, sum-add}
use Rattle.rules.specs.Problem.{rows, columns}
use Rattle.losses.specs.Losses.{over_cells}

pub over_add : (p : List ℕ) (f g : ℕ → ℕ → ℕ) → over_cells p (λ i c. f i c + g i c) ≡ over_cells p f + over_cells p g
over_add p f g = sum_same (rows p) _ _ (λ i l. sum-add (columns p) (f i) (g i)) ∙ sum-add (rows p) (λ i. sum (columns p) (f i)) (λ i. sum (columns p) (g i))

pub over-same : (p : List ℕ) (f g : ℕ → ℕ → ℕ) → ((i c : ℕ) → i < rows p → c < columns p → f i c ≡ g i c) → over_cells p f ≡ over_cells p g
over-same p f g h = sum_same (rows p) _ _ (λ i l. sum_same (columns p) (f i) (g i) (λ c m. h i c l m))
