-- What the look-ahead chooses and what it answers.
use Rattle.std.specs.Prelude.{ℕ, ◌<◌, ◌≡◌, Bool, false, List, Option, None, Some}
use Rattle.basics.specs.Bits.{Has}
use Rattle.rules.specs.Problem.{messages}
use Rattle.places.specs.Places.{Shut}

-- a message of the set l, or none
abbrev pub Picked : List ℕ → ℕ → Option ℕ → Type 0
Picked p l None = Unit {0}
Picked p l (Some j) = (j < messages p) × Has l j

-- an answer that is false only where nothing without a fault has the messages of l at places of the table a
pub record Cautious (p a : List ℕ) (l : ℕ) (b : Bool) : Type 0 where
  pub refuses : b ≡ false → Shut p a l
