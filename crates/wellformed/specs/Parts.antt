-- What the functions that test words ask of them and say.
use Rattle.std.specs.Prelude.{ℕ, ◌+◌, ◌<◌, ◌≤◌, ◌≡◌, List, length}
use Rattle.rules.specs.Problem.{column_at, message_at, columns, earliest}

-- p has the three words of column c
pub record HasColumn (p : List ℕ) (c : ℕ) : Type 0 where
  pub inside : column_at c + 3 ≤ length p
  pub few : c < 32

-- which may start at `from`
pub record Reached (p : List ℕ) (c from : ℕ) : Type 0 where
  pub from_is : from ≡ earliest p c
  pub has : HasColumn p c

-- p has k columns, and behind them the seven words of message j
pub record HasMessage (p : List ℕ) (k j : ℕ) : Type 0 where
  pub columns-are : k ≡ columns p
  pub inside : message_at k j + 7 ≤ length p
  pub few-columns : k ≤ 32
  pub few : j < 64
