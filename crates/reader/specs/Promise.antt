-- What the reader promises.
use Rattle.std.specs.Prelude.{ℕ, ◌≤◌, ◌≡◌, List, length, take, Ok, Err, MatchResult}
use Rattle.rules.specs.Problem.{WellFormed}
use Rattle.rules.specs.Paper.{Answer, Answers, room_fault}
use Rattle.rules.specs.Refusal.{Fault, ◌⊕◌}
use Rattle.problem.specs.File.{columns_in, messages_in, words_of}
use Rattle.problem.specs.Callers.{said_of}
use Rattle.problem.specs.Parts.{Counted}
use Rattle.problem.specs.Wrong.{head_fault, file_fault}

-- ---- to the other calls, which lend room enough
-- the answer r of a call that looks for the fault x: n words are as P says, and a refusal is that fault
abbrev pub Answered : Fault → (ℕ → Type 0) → Answer → Type 0
Answered x P r = MatchResult r P (λ q. x ≡ Err q)

-- the file f has no fault in its header and its length, and its n words stand in front of the buffer e
pub record Laid (f e : List ℕ) (n : ℕ) : Type 0 where
  pub clear : head_fault f ≡ Ok tt
  pub within : n ≤ length e
  pub front : take n e ≡ words_of f
  pub counted : Counted (take n e) (columns_in f) (messages_in f)

abbrev pub Taken : List ℕ → List ℕ → Answer → Type 0
Taken f e = Answered (head_fault f) (Laid f e)

-- the file f is a well-formed problem of n words, and they stand in front of the buffer e
pub record Opened (f e : List ℕ) (n : ℕ) : Type 0 where
  pub clear : file_fault f ≡ Ok tt
  pub within : n ≤ length e
  pub front : take n e ≡ words_of f
  pub formed : WellFormed (take n e)

abbrev pub Decoded : List ℕ → List ℕ → Answer → Type 0
Decoded f e = Answered (file_fault f) (Opened f e)

-- ---- to everyone
-- what is wrong with reading f into a buffer of `room` words
abbrev pub read_fault : List ℕ → ℕ → Fault
read_fault f room = file_fault f ⊕ room_fault (length (said_of f)) room

-- f is read into the buffer d, which then is e, with the answer r
abbrev pub Reading : List ℕ → List ℕ → List ℕ → Answer → Type 0
Reading f d e r = Answers (read_fault f (length d)) (said_of f) d e r
