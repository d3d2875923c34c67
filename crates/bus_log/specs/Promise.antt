-- What the two calls promise.
use Rattle.std.specs.Prelude.{ℕ, ◌%◌, ◌≡◌, Bool, ◌||◌, not, List, eqb, length, Result, Ok}
use Rattle.std.specs.Result.{result_err}
use Rattle.basics.specs.Tests.{outside}
use Rattle.rules.specs.declared.Refusal.TheVariants.{Log}
use Rattle.rules.specs.Paper.{Answer, paper, Answers, room_fault}
use Rattle.rules.specs.Refusal.{guard, ◌⊕◌, Fault}
use Rattle.problem.specs.File.{words_of}
use Rattle.proposal.specs.Accepted.{check_fault}
use Rattle.bus_log.specs.declared.Difference.{Difference}
use Rattle.bus_log.specs.Span.{IsDue, size, most_span}
use Rattle.bus_log.specs.Against.{Held, Against}

abbrev pub wrong_span : ℕ → Bool
wrong_span span = outside span 1 most_span

-- ---- the fault, or else what the log is against the words that are due, is answered with r
pub record HeldAnswered (fault : Fault) (p w : List ℕ) (span : ℕ) (log : List ℕ) (r : Held) : Type 0 where
  pub paper-is : paper r ≡ paper fault
  pub due : List ℕ
  pub due-is : fault ≡ Ok tt → IsDue p w span due
  pub held : fault ≡ Ok tt → Against due log r

-- within the call, once problem, proposal, log and span are accepted: nothing, or the first difference
abbrev pub HoldingAccepted : List ℕ → List ℕ → ℕ → List ℕ → Result (Unit {0}) Difference → Type 0
HoldingAccepted p w span log r = HeldAnswered (Ok tt) p w span log (Ok (result_err r))

-- what is wrong with holding a log of n words against the file f with the proposal w
abbrev pub hold_fault : List ℕ → List ℕ → ℕ → ℕ → Fault
hold_fault f w n span = check_fault f w ⊕ guard (not (eqb (n % 2) 0) || wrong_span span) Log

-- the log is held against f and w with the answer r
abbrev pub Holding : List ℕ → List ℕ → List ℕ → ℕ → Held → Type 0
Holding f w log span r = HeldAnswered (hold_fault f w (length log) span) (words_of f) w span log r

-- ---- the fault, or else the words that are due, is answered with r; the buffer held d and then holds e
pub record DueAnswered (fault : Fault) (p w : List ℕ) (span : ℕ) (d e : List ℕ) (r : Answer) : Type 0 where
  pub due : List ℕ
  pub due-is : fault ≡ Ok tt → IsDue p w span due
  pub answers : Answers fault due d e r

-- within the call, once problem, proposal and span are accepted
abbrev pub DueAccepted : List ℕ → List ℕ → ℕ → List ℕ → List ℕ → Answer → Type 0
DueAccepted p w span d e r = DueAnswered (room_fault (size p span) (length d)) p w span d e r

-- what is wrong with writing what is due into a buffer of `room` words
abbrev pub due_fault : List ℕ → List ℕ → ℕ → ℕ → Fault
due_fault f w span room = check_fault f w ⊕ guard (wrong_span span) Log ⊕ room_fault (size (words_of f) span) room

abbrev pub DueWritten : List ℕ → List ℕ → ℕ → List ℕ → List ℕ → Answer → Type 0
DueWritten f w span d e r = DueAnswered (due_fault f w span (length d)) (words_of f) w span d e r
