-- A message that is not kept stands at no place of the matrix: both its words are none.
use Rattle.std.proofs.Common.{◌≡◌, ℕ, List, false, arith}
use Rattle.std.proofs.lemmas.Grind.{common_steps}
use Rattle.rules.specs.Problem.{column, row}
use Rattle.kept.specs.Kept.{none, keeps}

module _ (k : List ℕ) (j : ℕ) (n : keeps k j ≡ false) where
  pub none-column : column k j ≡ none
  unfolding keeps
  none-column = grind (arith, common_steps)

  pub none_row : row k j ≡ none
  unfolding keeps
  none_row = grind (arith, common_steps)
