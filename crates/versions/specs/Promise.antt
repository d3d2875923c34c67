-- What moving a file up and back promises.
use Rattle.std.specs.Prelude.{ℕ, ◌≡◌, not, List, eqb, length, Ok}
use Rattle.rules.specs.declared.Refusal.TheVariants.{Version}
use Rattle.rules.specs.Paper.{Answer, Answers, room_fault}
use Rattle.rules.specs.Refusal.{Fault, guard, ◌⊕◌}
use Rattle.problem.specs.declared.layout.Layout.{Layout}
use Rattle.problem.specs.declared.layout.Layout.TheVariants.{One, Two}
use Rattle.problem.specs.Layout.{version}
use Rattle.problem.specs.File.{version_in, words_of, file_of}
use Rattle.problem.specs.Wrong.{file_fault, held_fault}
use Rattle.reader.specs.Promise.{Answered, Opened}

-- what is wrong with the file f, which is to be of layout L
abbrev pub open_fault : Layout → List ℕ → Fault
open_fault L f = file_fault f ⊕ guard (not (eqb (version_in f) (version L))) Version

-- ---- within the calls
-- the file f is a well-formed problem of layout L, and its n words stand in front of the buffer e
pub record OpenedAs (L : Layout) (f e : List ℕ) (n : ℕ) : Type 0 where
  pub clear : open_fault L f ≡ Ok tt
  pub opened : Opened f e n

abbrev pub OpenedIn : Layout → List ℕ → List ℕ → Answer → Type 0
OpenedIn L f e = Answered (open_fault L f) (OpenedAs L f e)

-- ---- to everyone
-- what is wrong with moving the file f, up or back, into a buffer of `room` bytes
abbrev pub up_fault : List ℕ → ℕ → Fault
up_fault f room = open_fault One f ⊕ room_fault (length (file_of Two (words_of f))) room

abbrev pub back_fault : List ℕ → ℕ → Fault
back_fault f room = open_fault Two f ⊕ held_fault One (words_of f) ⊕ room_fault (length (file_of One (words_of f))) room

-- f is moved up into the buffer d, which then is e, with the answer r
abbrev pub Raising : List ℕ → List ℕ → List ℕ → Answer → Type 0
Raising f d e r = Answers (up_fault f (length d)) (file_of Two (words_of f)) d e r

-- f is moved back
abbrev pub Lowering : List ℕ → List ℕ → List ℕ → Answer → Type 0
Lowering f d e r = Answers (back_fault f (length d)) (file_of One (words_of f)) d e r
