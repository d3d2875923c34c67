-- What the calls that work on an accepted proposal are handed: the problem's words in a buffer that they lend, or the refusal.
use Rattle.std.specs.Prelude.{ℕ, ◌≤◌, ◌≡◌, List, length, take, Ok}
use Rattle.problem.specs.File.{words_of}
use Rattle.reader.specs.Promise.{Answered}
use Rattle.proposal.specs.Accepted.{check_fault, Accepted}
use Rattle.rules.specs.Paper.{Answer}

-- the file f and the proposal w are accepted, and the problem's n words stand in front of the buffer e
pub record Admitted (f w e : List ℕ) (n : ℕ) : Type 0 where
  pub clear : check_fault f w ≡ Ok tt
  pub within : n ≤ length e
  pub front : take n e ≡ words_of f
  pub accepted : Accepted (take n e) w

-- f and w are tested, and f is read into a buffer that then is e
abbrev pub Tested : List ℕ → List ℕ → List ℕ → Answer → Type 0
Tested f w e = Answered (check_fault f w) (Admitted f w e)
