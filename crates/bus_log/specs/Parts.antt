-- What the parts of the calls hand back.
use Rattle.std.specs.Prelude.{ℕ, ◌+◌, ◌*◌, ◌%◌, ◌<◌, ◌≤◌, ◌≡◌, List, ◌++◌, length, get_or, drop, Err, Ok, Result}
use Rattle.bus_log.specs.declared.Difference.{Difference}
use Rattle.bus_log.specs.Against.{Differing}

-- the pair of the log at a word is the one of x, so much later
pub record Follows (x : List ℕ) (later : ℕ) (log : List ℕ) (at : ℕ) : Type 0 where
  pub time : get_or log at 0 ≡ get_or x at 0 + later
  pub identifier : get_or log (at + 1) 0 ≡ get_or x (at + 1) 0

-- r words at the front of the log are those of x, so much later
pub record Agreed (x : List ℕ) (later : ℕ) (log : List ℕ) (r : ℕ) : Type 0 where
  pub whole : r % 2 ≡ 0
  pub inside : r ≤ length x
  pub in-log : r ≤ length log
  pub follows : (k : ℕ) → 2 * k < r → Follows x later log (2 * k)

-- and the pair behind them, if both have one, is not
pub record Agreeing (x : List ℕ) (later : ℕ) (log : List ℕ) (r : ℕ) : Type 0 where
  pub agreed : Agreed x later log r
  pub stops : r < length x → r < length log → ¬ Follows x later log r

-- the log begins with x, or it differs within x
pub data Begins (x log : List ℕ) : Result ℕ Difference → Type 0 where
  with_all : (n : ℕ) → n ≡ length x → log ≡ x ++ drop n log → Begins x log (Ok n)
  but-for : (d : Difference) → 2 * d.index + 1 < length x → Differing x log d → Begins x log (Err d)
