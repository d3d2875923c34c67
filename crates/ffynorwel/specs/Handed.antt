-- What each exported call promises: exactly an answer of the Rattle call, in eight words.
use Rattle.std.specs.Prelude.{ℕ, ◌≡◌, List}

-- x is the eight words of an answer that the call's own promise allows
pub record Handed {A : Type 0} (promise : A → Type 0) (words : A → List ℕ) (x : List ℕ) : Type 0 where
  pub answer : A
  pub promised : promise answer
  pub stored : x ≡ words answer
