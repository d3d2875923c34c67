-- A message that is given a placement: its two words are put in, and no other message's.
use Rattle.std.proofs.Common.{◌≡◌, ℕ, List, arith}
use Rattle.std.proofs.lemmas.Grind.{common_steps}
use Rattle.rules.specs.Problem.{Gives, column, row}
use Rattle.kept.specs.Kept.{put}

module _ (w : List ℕ) (j c r : ℕ) where
  pub other-column : (i : ℕ) → ¬ (i ≡ j) → column (put w j c r) i ≡ column w i
  other-column i d = grind (arith, common_steps)

  pub other_row : (i : ℕ) → ¬ (i ≡ j) → row (put w j c r) i ≡ row w i
  other_row i d = grind (arith, common_steps)

  module _ (room : Gives w j) where
    pub own-column : column (put w j c r) j ≡ c
    own-column = grind (arith, common_steps)

    pub own_row : row (put w j c r) j ≡ r
    own_row = grind (arith, common_steps)
