-- What the parts of the call ask and hand each other, and how large the figures become.
use Rattle.std.specs.Prelude.{ℕ, ◌+◌, ◌*◌, ◌<◌, ◌≤◌, ◌≡◌, true, false, List, get_or, Ok, Option, MatchOption}
use Rattle.rules.specs.Problem.{frame}
use Rattle.response.specs.declared.times.Worst.{Worst}
use Rattle.response.specs.Events.{most_events, longest_period, count, Rules, Sound}
use Rattle.response.specs.Times.{arrivals, Busy, longest_busy, endless, Instance, Response}
use Rattle.rules.specs.Refusal.{Fault}

-- j is one of the events e, which keep the rules
pub record Member (e : List ℕ) (j : ℕ) : Type 0 where
  pub sound : Sound e
  pub below : j < count e
  pub rules : Rules e j

-- r is x, which lies from lo to hi
pub record Figure (x lo hi r : ℕ) : Type 0 where
  pub is : r ≡ x
  pub least : lo ≤ r
  pub most : r ≤ hi

-- ---- busy periods
-- t is event i's busy period
pub record Span (e : List ℕ) (i t : ℕ) : Type 0 where
  pub busy : Busy e i t
  pub most : t ≤ longest_busy

-- and the first n words of s those of the first n events
pub record Spans (e s : List ℕ) (n : ℕ) : Type 0 where
  pub each : (i : ℕ) → i < n → Span e i (get_or s i 0)

-- r is event i's busy period, or nothing where it has none
abbrev pub BusyOrNone : List ℕ → ℕ → Option ℕ → Type 0
BusyOrNone e i r = MatchOption r (endless e i ≡ true) (Span e i)

-- r is the fault x that was looked for; without one s begins with the busy periods of all events
pub record Noted (e s : List ℕ) (x r : Fault) : Type 0 where
  pub fault-is : r ≡ x
  pub spans : r ≡ Ok tt → Spans e s (count e)

-- the events keep the rules and have busy periods, and there is room for so many times
pub record Ready (e : List ℕ) (room : ℕ) : Type 0 where
  pub sound : Sound e
  pub ended : (i : ℕ) → i < count e → endless e i ≡ false
  pub fits : count e ≤ room

-- ---- the longest response
-- r is x, or instance q with the response v where that is longer
pub data Worse (x : Worst) (q v : ℕ) (r : Worst) : Type 0 where
  kept : v ≤ x.response → r ≡ x → Worse x q v r
  longer : x.response < v → r ≡ record { span = x.span; instance = q; response = v } → Worse x q v r

-- r is an instance of event i's busy period t, and the one with the longest response unless that is above the limit
pub record Sought (e : List ℕ) (i t limit : ℕ) (r : Worst) : Type 0 where
  pub span-is : r.span ≡ t
  pub inside : r.instance < arrivals e i t
  pub here : Instance e i r.instance r.response
  pub whole : r.response ≤ limit → Response e i t r.instance r.response

-- ---- bounds
-- a frame without data, and one with 8 bytes
abbrev pub shortest_frame : ℕ
shortest_frame = frame 0

abbrev pub longest_frame : ℕ
longest_frame = frame 8

-- the longest span that is asked about: 2^25, twice the longest busy period
abbrev pub longest_span : ℕ
longest_span = 8 * longest_period

-- the frames of an event that are queued within a span: at most one for each unit of the span and of the jitter
abbrev pub most_arrivals : ℕ
most_arrivals = longest_span + longest_period

-- how long those of one event take, and those of all
abbrev pub most_interference : ℕ
most_interference = longest_frame * most_arrivals

abbrev pub most_demand : ℕ
most_demand = most_interference * most_events
