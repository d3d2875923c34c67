-- Kept placements and those of the other messages, as one proposal.
use Rattle.std.specs.Prelude.{ℕ, ◌<◌, ◌≡◌, true, List, get_or}
use Rattle.rules.specs.Problem.{column, row}
use Rattle.kept.specs.Kept.{keeps}

-- of h messages w has those that k keeps as k has them, and the n whose numbers are the first words of m as v has slots 0, 1, ..
pub record Joined (k m : List ℕ) (n : ℕ) (v : List ℕ) (h : ℕ) (w : List ℕ) : Type 0 where
  pub kept-columns : (j : ℕ) → j < h → keeps k j ≡ true → column w j ≡ column k j
  pub kept-rows : (j : ℕ) → j < h → keeps k j ≡ true → row w j ≡ row k j
  pub free-columns : (s : ℕ) → s < n → column w (get_or m s 0) ≡ column v s
  pub free-rows : (s : ℕ) → s < n → row w (get_or m s 0) ≡ row v s
