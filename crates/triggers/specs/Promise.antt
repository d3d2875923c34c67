-- What the call promises.
use Rattle.std.specs.Prelude.{ℕ, ◌≡◌, List, length, Ok}
use Rattle.rules.specs.Paper.{Answers, Answer, room_fault}
use Rattle.rules.specs.Refusal.{◌⊕◌, Fault}
use Rattle.problem.specs.File.{words_of}
use Rattle.proposal.specs.Accepted.{check_fault}
use Rattle.triggers.specs.Lists.{Lists, size}

-- the fault, or else the lists of p with the proposal w, is answered with r; the buffer held d and then holds e
pub record ListsAnswered (fault : Fault) (p w d e : List ℕ) (r : Answer) : Type 0 where
  pub lists : List ℕ
  pub lists-are : fault ≡ Ok tt → Lists p w lists
  pub answers : Answers fault lists d e r

-- ---- within the call, once problem and proposal are accepted
abbrev pub ListingAccepted : List ℕ → List ℕ → List ℕ → List ℕ → Answer → Type 0
ListingAccepted p w d e r = ListsAnswered (room_fault (size p) (length d)) p w d e r

-- ---- to everyone
-- what is wrong with listing the file f with the proposal w into a buffer of `room` words
abbrev pub lists_fault : List ℕ → List ℕ → ℕ → Fault
lists_fault f w room = check_fault f w ⊕ room_fault (size (words_of f)) room

-- f and w are listed into the buffer d, which then is e, with the answer r
abbrev pub Listing : List ℕ → List ℕ → List ℕ → List ℕ → Answer → Type 0
Listing f w d e r = ListsAnswered (lists_fault f w (length d)) (words_of f) w d e r
