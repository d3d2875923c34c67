-- What the call promises.
use Rattle.std.specs.Prelude.{ℕ, ◌<◌, ◌≤◌, ◌≡◌, List, length, get_or, eqb}
use Rattle.basics.specs.Sums.{sum, only}
use Rattle.rules.specs.declared.Refusal.TheVariants.{Endless}
use Rattle.rules.specs.Refusal.{guard, ◌⊕◌, first_fault, Fault}
use Rattle.rules.specs.Paper.{paper, figure_for, room_fault, Answer, count_of}
use Rattle.response.specs.Events.{count, events_fault}
use Rattle.response.specs.Times.{endless, Written}

-- ---- what is wrong with a call that has room for so many times: its events, the first that has no busy period, or the room
abbrev pub endless_fault : List ℕ → ℕ → Fault
endless_fault e j = guard (endless e j) (Endless j)

unfoldable pub call_fault : List ℕ → ℕ → Fault
call_fault e room = events_fault e ⊕ first_fault (count e) (endless_fault e) ⊕ room_fault (count e) room

-- ---- what is written

-- 1 for a time that is 0, and how many such are among the first n words of x
abbrev pub miss : ℕ → ℕ
miss t = only (eqb t 0) 1

abbrev pub zeros : List ℕ → ℕ → ℕ
zeros x n = sum n (λ i. miss (get_or x i 0))

-- the first n words of x are those written for the first n of the events e, and the rest is as in d
pub record TimesWritten (e d x : List ℕ) (n : ℕ) : Type 0 where
  pub as_long : length x ≡ length d
  pub each : (i : ℕ) → i < n → Written e i (get_or x i 0)
  pub kept : (i : ℕ) → n ≤ i → get_or x i 0 ≡ get_or d i 0

-- ---- the promise: the events e are answered with r, and the buffer d then is x; with a refusal no time is written, so that the buffer is kept
pub record Responding (e d x : List ℕ) (r : Answer) : Type 0 where
  pub paper-is : paper r ≡ paper (call_fault e (length d))
  pub misses-is : count_of r ≡ figure_for (call_fault e (length d)) (zeros x (count e))
  pub times-are : TimesWritten e d x (figure_for (call_fault e (length d)) (count e))
