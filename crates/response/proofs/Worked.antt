-- Examples of the promise, computed: document 02's starred events, the message set B of document 004's table 1, and the edge where the bus is never free. No code is named.
use Prim.Native.Nat.{ℕ}
use mathlib.Core.Path.{refl}
use mathlib.Core.List.{List, [], ◌∷◌}
use native.Mathlib.Omega.{arith}
use Rattle.basics.specs.Tests.{some}
use Rattle.basics.specs.Sums.{sum, largest}
use Rattle.rules.specs.declared.Refusal.TheVariants.{Event, Endless}
use Rattle.rules.specs.Refusal.{first_fault}
use Rattle.response.specs.Events.{repeated, event_wrong, events_fault}
use Rattle.response.specs.Times.{Response}
use Rattle.response.specs.Promise.{call_fault, Responding}
use Rattle.response.proofs.Results.{responding-refused}
use Rattle.response.proofs.Computed.{climb, span, worse, seek, worst, time, times, spans_fault, computed, computed-response, computed-endless}
use Rattle.std.specs.Prelude.{Err, Ok}

-- no events: nothing is written, and none is missed
pub no-events : (d : List ℕ) → Responding [] d d (Ok 0)
unfolding events_fault spans_fault first_fault sum times
no-events d = computed [] d (omega arith) refl refl refl refl

-- the same identifier twice, and no room: the later event is at fault, before the room is
pub twice : Responding (7 ∷ 0 ∷ 100 ∷ 0 ∷ 100 ∷ 7 ∷ 0 ∷ 100 ∷ 0 ∷ 100 ∷ []) [] [] (Err (Event 1))
unfolding call_fault events_fault event_wrong repeated some first_fault
twice = responding-refused (7 ∷ 0 ∷ 100 ∷ 0 ∷ 100 ∷ 7 ∷ 0 ∷ 100 ∷ 0 ∷ 100 ∷ []) [] refl refl

-- three events of 8 bytes with periods 337, 475 and 475, the third with a deadline d
abbrev pub three : ℕ → List ℕ
three d = 1 ∷ 8 ∷ 337 ∷ 0 ∷ 337 ∷ 2 ∷ 8 ∷ 475 ∷ 0 ∷ 475 ∷ 3 ∷ 8 ∷ 475 ∷ 0 ∷ d ∷ []

-- the third's response is 470, by its second instance
pub second-instance : Response (three 440) 2 945 1 470
unfolding events_fault spans_fault event_wrong repeated some first_fault sum largest climb span worse seek worst
second-instance = computed-response (three 440) 2 refl refl (omega arith) refl

-- in a buffer of three words or more
module _ (a b c : ℕ) (rest : List ℕ) where
  -- a deadline of 440 is missed: 0 there, and one miss
  pub one-missed : Responding (three 440) (a ∷ b ∷ c ∷ rest) (270 ∷ 405 ∷ 0 ∷ rest) (Ok 1)
  unfolding events_fault spans_fault event_wrong repeated some first_fault sum largest climb span worse seek worst time times
  one-missed = computed (three 440) (a ∷ b ∷ c ∷ rest) (omega arith) refl refl refl refl

  pub all-met : Responding (three 475) (a ∷ b ∷ c ∷ rest) (270 ∷ 405 ∷ 470 ∷ rest) (Ok 0)
  unfolding events_fault spans_fault event_wrong repeated some first_fault sum largest climb span worse seek worst time times
  all-met = computed (three 475) (a ∷ b ∷ c ∷ rest) (omega arith) refl refl refl refl

-- seven messages of 8 bytes at 25 kbit/s, where 1 ms is 25 bit times and a frame's 5,4 ms are 135; the seventh count_of its deadline
abbrev pub seven : List ℕ
seven =
    1 ∷ 8 ∷ 2000 ∷ 0 ∷ 2000
    ∷ 2 ∷ 8 ∷ 1000 ∷ 0 ∷ 1000
    ∷ 3 ∷ 8 ∷ 1000 ∷ 0 ∷ 1000
    ∷ 4 ∷ 8 ∷ 1000 ∷ 0 ∷ 1000
    ∷ 5 ∷ 8 ∷ 1000 ∷ 0 ∷ 1000
    ∷ 6 ∷ 8 ∷ 3750 ∷ 0 ∷ 3750
    ∷ 7 ∷ 8 ∷ 750 ∷ 0 ∷ 750
    ∷ []

-- 10,8 16,2 21,6 27,0 32,4 and 37,8 ms, as by the first instances alone
pub table-1 : Responding seven (0 ∷ 0 ∷ 0 ∷ 0 ∷ 0 ∷ 0 ∷ 0 ∷ []) (270 ∷ 405 ∷ 540 ∷ 675 ∷ 810 ∷ 945 ∷ 0 ∷ []) (Ok 1)
unfolding events_fault spans_fault event_wrong repeated some first_fault sum largest climb span worse seek worst time times
table-1 = computed seven (0 ∷ 0 ∷ 0 ∷ 0 ∷ 0 ∷ 0 ∷ 0 ∷ []) (omega arith) refl refl refl refl

-- a frame of 55 every 55: the bus is never free, and still the busy period ends with the first frame
abbrev pub one : List ℕ
one = 1 ∷ 0 ∷ 55 ∷ 0 ∷ 55 ∷ []

pub never-free : Response one 0 55 0 55
unfolding events_fault spans_fault event_wrong repeated some first_fault sum largest climb span worse seek worst
never-free = computed-response one 0 refl refl (omega arith) refl

pub one-met : (a : ℕ) (rest : List ℕ) → Responding one (a ∷ rest) (55 ∷ rest) (Ok 0)
unfolding events_fault spans_fault event_wrong repeated some first_fault sum largest climb span worse seek worst time times
one-met a rest = computed one (a ∷ rest) (omega arith) refl refl refl refl

-- two frames of 55 every 100 are more than the bus carries: the second event has no busy period, which comes before the room
pub too_many : (d : List ℕ) → Responding (1 ∷ 0 ∷ 100 ∷ 0 ∷ 100 ∷ 2 ∷ 0 ∷ 100 ∷ 0 ∷ 100 ∷ []) d d (Err (Endless 1))
unfolding events_fault spans_fault event_wrong repeated some first_fault sum largest climb span
too_many d = computed-endless (1 ∷ 0 ∷ 100 ∷ 0 ∷ 100 ∷ 2 ∷ 0 ∷ 100 ∷ 0 ∷ 100 ∷ []) d refl refl
