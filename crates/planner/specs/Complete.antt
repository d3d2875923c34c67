-- Kept placements that have passed the tests, and what completes them.
use Rattle.std.specs.Prelude.{ℕ, ◌≤◌, ◌≡◌, List, length, take, Option, None, Some, Ok}
use Rattle.rules.specs.Problem.{messages, proposal_words, WellFormed}
use Rattle.row_words.specs.RowWords.{RowWords}
use Rattle.proposal.specs.Partial.{kept_fault}
use Rattle.places.specs.Places.{most_planned}
use Rattle.rest.specs.Free.{Free}
use Rattle.planner.specs.Least.{PlanKeeping, LeastKeeping}

-- nothing is wrong with the placements k, and the row words t have their cells; m has the numbers of the n messages without one
pub record Sound (p k t m : List ℕ) (n : ℕ) : Type 0 where
  pub formed : WellFormed p
  pub faultless : kept_fault p k ≡ Ok tt
  pub cells : RowWords p k (messages p) t
  pub free : Free k (messages p) m n
  pub few : n ≤ most_planned

-- the first words of w are the least plan that keeps them
pub record Completed (p k w : List ℕ) : Type 0 where
  pub long : proposal_words p ≤ length w
  pub least : LeastKeeping p k (take (proposal_words p) w)

-- there is one, or none
abbrev pub Completes : List ℕ → List ℕ → Option (List ℕ) → Type 0
Completes p k (Some w) = Completed p k w
Completes p k None = (v : List ℕ) → PlanKeeping p k v → ⊥
