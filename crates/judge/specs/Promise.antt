-- What judging promises: demand 2 as a call, and where the bus time goes.
use Rattle.std.specs.Prelude.{ℕ, ◌≡◌, List, ◌↔◌, Result}
use Rattle.rules.specs.declared.Refusal.{Refusal}
use Rattle.rules.specs.Problem.{InRange}
use Rattle.rules.specs.Paper.{paper}
use Rattle.rules.specs.Sends.{Acceptable}
use Rattle.problem.specs.File.{words_of}
use Rattle.problem.specs.Wrong.{Reads}
use Rattle.proposal.specs.Accepted.{check_fault}
use Rattle.losses.specs.Losses.{FiguresAre}
use Rattle.losses.specs.declared.BusTime.{BusTime}
use Rattle.judge.specs.Answer.{figures}

-- the file f and the proposal w are answered with r
pub record Judging (f w : List ℕ) (r : Result BusTime Refusal) : Type 0 where
  pub paper-is : paper r ≡ paper (check_fault f w)
  -- and in terms of sends: accepted exactly where the proposal is in range and acceptable
  pub exactly : (p : List ℕ) → Reads f p → ((paper r).number ≡ 0) ↔ (InRange p w × Acceptable p w)
  -- the five figures, each by its own rule, and 0 with a refusal
  pub figures-are : FiguresAre (check_fault f w) (words_of f) w (figures r)
