-- What the writer promises.
use Rattle.std.specs.Prelude.{ℕ, ◌≤◌, ◌≡◌, List, length, take, Ok}
use Rattle.rules.specs.Problem.{columns, messages}
use Rattle.rules.specs.Paper.{Answer, Answers, room_fault}
use Rattle.rules.specs.Refusal.{Fault, ◌⊕◌}
use Rattle.problem.specs.declared.layout.Layout.{Layout}
use Rattle.problem.specs.File.{file_of}
use Rattle.problem.specs.Callers.{layout_by, problem_of}
use Rattle.problem.specs.Wrong.{count_fault, problem_fault}
use Rattle.problem.specs.Parts.{Counted}
use Rattle.reader.specs.Promise.{Answered}

-- ---- to the other calls, which lend room enough
-- the words w of a caller have no fault in their header and their count, and the n words of their problem stand in front of the buffer e
pub record Given (w e : List ℕ) (n : ℕ) : Type 0 where
  pub clear : count_fault w ≡ Ok tt
  pub within : n ≤ length e
  pub front : take n e ≡ problem_of w
  pub counted : Counted (take n e) (columns w) (messages w)

abbrev pub Taken : List ℕ → List ℕ → Answer → Type 0
Taken w e = Answered (count_fault w) (Given w e)

-- the well-formed problem p is written in layout L into the buffer d, which then is e, with the answer r
abbrev pub Laying : Layout → List ℕ → List ℕ → List ℕ → Answer → Type 0
Laying L p d e r = Answers (room_fault (length (file_of L p)) (length d)) (file_of L p) d e r

-- ---- to everyone
-- the file of a caller's words, of the version that their count tells
abbrev pub file_for : List ℕ → List ℕ
file_for w = file_of (layout_by w) (problem_of w)

-- what is wrong with writing the words w into a buffer of `room` bytes
abbrev pub write_fault : List ℕ → ℕ → Fault
write_fault w room = problem_fault w ⊕ room_fault (length (file_for w)) room

-- w are written into the buffer d, which then is e, with the answer r
abbrev pub Writing : List ℕ → List ℕ → List ℕ → Answer → Type 0
Writing w d e r = Answers (write_fault w (length d)) (file_for w) d e r
