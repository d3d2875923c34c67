-- What an answer is in the paper's terms: its number and places, its figures, and what a lent buffer then holds.
use Rattle.std.specs.Prelude.{ℕ, List, ◌++◌, ◌≡◌, ltb, length, drop, Result, Ok, Err}
use Rattle.rules.specs.declared.Paper.{Paper}
use Rattle.rules.specs.declared.Refusal.{Refusal}
use Rattle.rules.specs.declared.Refusal.TheVariants.{Length, Mark, Version, Header, Column, Identity, Timing, Triggers, ProposalLength, Range, Width, Late, Meeting, NoPlan, TooMany, Room, EventWords, Event, Endless, Unheld, Log}
use Rattle.rules.specs.Refusal.{guard, Fault}

abbrev pub between : ℕ → ℕ → ℕ → Paper
between n j i = record { number = n; place = j; second = i }

-- the second place is 0 where nothing is said of it
abbrev pub at : ℕ → ℕ → Paper
at n j = between n j 0

-- ---- the table of numbers: done is 0, and each refusal has its number and its places
abbrev pub done : Paper
done = at 0 0

abbrev pub refused : Refusal → Paper
refused Length = at 1 0
refused Mark = at 2 0
refused Version = at 3 0
refused (Header b) = at 4 b
refused (Column c) = at 5 c
refused (Identity j) = at 6 j
refused (Timing j) = at 7 j
refused (Triggers n) = at 8 n
refused ProposalLength = at 9 0
refused (Range j) = at 10 j
refused (Width j) = at 11 j
refused (Late j) = at 12 j
refused (Meeting j i) = between 13 j i
refused NoPlan = at 14 0
refused TooMany = at 15 0
refused Room = at 16 0
refused EventWords = at 17 0
refused (Event j) = at 18 j
refused (Endless j) = at 19 j
refused (Unheld i) = at 20 i
refused Log = at 24 0

-- ---- an answer: done, whatever it has, or why it is refused
abbrev pub paper : {A : Type 0} → Result A Refusal → Paper
paper (Ok x) = done
paper (Err q) = refused q

-- how much a call wrote, or the refusal
abbrev pub Answer : Type 0
Answer = Result ℕ Refusal

-- how much that is: 0 with a refusal
abbrev pub count_of : Answer → ℕ
count_of (Ok n) = n
count_of (Err q) = 0

-- ---- what a call answers for a fault
-- a figure, and 0 with a refusal
abbrev pub figure_for : Fault → ℕ → ℕ
figure_for (Ok tt) x = x
figure_for (Err q) x = 0

-- the output w in front of what the buffer d held; a refusal writes nothing
abbrev pub buffer_for : Fault → List ℕ → List ℕ → List ℕ
buffer_for (Ok tt) w d = w ++ drop (length w) d
buffer_for (Err q) w d = d

-- ---- a call that writes: the fault x, or else the output w, is answered with r; the buffer held d and then holds e
pub record Answers (x : Fault) (w d e : List ℕ) (r : Answer) : Type 0 where
  pub paper-is : paper r ≡ paper x
  pub count-is : count_of r ≡ figure_for x (length w)
  pub buffer-is : e ≡ buffer_for x w d

-- an output of n does not fit into so much room
abbrev pub room_fault : ℕ → ℕ → Fault
room_fault n room = guard (ltb room n) Room
