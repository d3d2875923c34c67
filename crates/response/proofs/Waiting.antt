-- The search for an event's longest response, instance by instance: w begins at the blocking, takes the queue's next value each turn, and so stays at or below every solution.
-- A w that comes again is the queuing time of the instance, and a frame later is at or below every solution of the next. Each turn adds a whole frame.
use Prim.Native.Nat.{ℕ, ◌+◌, ◌*◌, ◌-◌, ◌<◌, ◌≤◌}
use mathlib.Core.Path.{◌≡◌, refl, sym, ap₂, ◌∙◌}
use mathlib.Core.List.{List}
use native.Mathlib.Omega.{arith}
use Rattle.basics.proofs.Fixed.{Under, under-from, under_next, under-least, least-is-under}
use Rattle.basics.proofs.Steps.{Step, stays, rises}
use Rattle.response.specs.declared.times.Worst.{Worst}
use Rattle.response.specs.Events.{longest_period, period, jitter, deadline}
use Rattle.response.specs.Times.{takes, blocking, arrivals, demand, longest_busy, queue, Queued, Instance, Longest, Response, Written, met, missed}
use Rattle.response.specs.Parts.{Member, Span, Worse, kept, longer, Sought, shortest_frame}
use Rattle.response.proofs.Queue.{demand-step, demand-some, queue-rises}
use Rattle.response.proofs.Instances.{waits-within, released, under-later, longest-first, longest-kept, longest-next, response-exists}
use Rattle.response.proofs.Spans.{arrives}
use Rattle.response.proofs.Turns.{left, left-falls}

-- the code's numbers for event i in its busy period t: its frame, period, jitter and frame together, and how many instances there are
pub record Timing (e : List ℕ) (i t frame per own count : ℕ) : Type 0 where
  pub member : Member e i
  pub span : Span e i t
  pub frame_is : frame ≡ takes e i
  pub period-is : per ≡ period e i
  pub own_is : own ≡ jitter e i + takes e i
  pub count-is : count ≡ arrivals e i t

-- and for instance q: the blocking and the frames ahead of it, when it is released, and a time that it waits at least
pub record Waiting (e : List ℕ) (i t q ahead release w : ℕ) : Type 0 where
  pub ahead-is : ahead ≡ blocking e i + q * takes e i
  pub release-is : release ≡ q * period e i
  pub under : Under (queue e i q) 0 w
  pub least : ahead ≤ w
  pub most : w ≤ t
  pub step : Step shortest_frame w (queue e i q w)

-- what was found in the first q instances: nothing yet, or the longest response, which is at most the limit
pub data Found (e : List ℕ) (i t q limit : ℕ) (x : Worst) : Type 0 where
  nothing : q ≡ 0 → x ≡ record { span = t; instance = 0; response = 0 } → Found e i t q limit x
  so_far : x.span ≡ t → Longest e i q x.instance x.response → x.response ≤ limit → Found e i t q limit x

-- ---- where the search begins
module _ {e : List ℕ} {i t ahead : ℕ} (span : Span e i t) (a : ahead ≡ blocking e i) where
  first_step : Step shortest_frame (blocking e i) (queue e i 0 (blocking e i))
  first_step =
      elim (demand-some e i (blocking e i + 1)) [
        | stays s ↦ stays (omega arith)
        | rises h ↦ rises (omega arith)
      ]

  pub waiting-start : Waiting e i t 0 ahead 0 ahead
  waiting-start = record {
    ahead-is = omega arith;
    release-is = omega arith;
    under = rw a (under-from 0 (λ v. omega arith) (omega arith));
    least = omega arith;
    most = omega (arith, span.busy.solves);
    step = rw a first_step;
  }

pub found-start : (e : List ℕ) (i t limit : ℕ) → Found e i t 0 limit (record { span = t; instance = 0; response = 0 })
found-start e i t limit = nothing refl refl

found-span : {e : List ℕ} {i t q limit : ℕ} {x : Worst} → Found e i t q limit x → x.span ≡ t
found-span (nothing z y) = rw y
found-span (so_far z y m) = z

found_within : {e : List ℕ} {i t q limit : ℕ} {x : Worst} → Found e i t q limit x → x.response ≤ limit
found_within {x = x} (nothing z y) = let u : x.response ≡ 0 = rw y in omega arith
found_within (so_far z y m) = m

-- ---- a turn
module _ {e : List ℕ} {i t frame per own count : ℕ} (fixed : Timing e i t frame per own count) where
  module _ {q ahead release w more : ℕ} (s : Waiting e i t q ahead release w) (l : q < count) (m : more ≡ demand e i (w + 1)) where
    next-is : ahead + more ≡ queue e i q w
    next-is = ap₂ ◌+◌ s.ahead-is m

    inside : q < arrivals e i t
    inside = omega (arith, fixed.count-is)

    -- w climbs
    queue-under : Under (queue e i q) 0 (queue e i q w)
    queue-under = under_next (queue-rises e i q) s.under

    queue-step : Step shortest_frame (queue e i q w) (queue e i q (queue e i q w))
    queue-step =
        elim (demand-step e i (w + 1) (queue e i q w + 1) (omega (arith, s.under.grows))) [
          | stays h ↦ stays (omega arith)
          | rises h ↦ rises (omega arith)
        ]

    pub waiting-next : Waiting e i t q ahead release (ahead + more)
    waiting-next = record {
      ahead-is = s.ahead-is;
      release-is = s.release-is;
      under = rw next-is queue-under;
      least = omega arith;
      most = omega (arith, next-is, waits-within e i fixed.span.busy q inside queue-under);
      step = rw next-is queue-step;
    }

    pub next-falls : ¬ (ahead + more ≡ w) → left (ahead + more) < left w
    next-falls h =
        elim s.step [
          | stays k ↦ absurd (h (next-is ∙ sym k))
          | rises k ↦ left-falls (omega (arith, s.most, fixed.span.most)) (omega (arith, next-is))
        ]

    -- w came again: it is the instance's queuing time, and the next instance begins
    module _ (h : ahead + more ≡ w) where
      queued : Queued e i q w
      queued = under-least s.under (sym next-is ∙ h)

      pub in_span : w + takes e i ≤ t
      in_span = waits-within e i fixed.span.busy q inside s.under

      pub release-before : release ≤ own + w
      release-before = omega (arith, s.release-is, fixed.own_is, released fixed.member fixed.span.busy q inside (sym next-is ∙ h))

      pub instance-here : Instance e i q (own + w - release)
      instance-here = record { waits = w; queued = queued; is = omega (arith, s.release-is, fixed.own_is) }

      later-step : Step shortest_frame (w + takes e i) (queue e i (q + 1) (w + takes e i))
      later-step =
          elim (demand-step e i (w + 1) (w + takes e i + 1) (omega arith)) [
            | stays k ↦ stays (omega (arith, next-is))
            | rises k ↦ rises (omega (arith, next-is))
          ]

      pub waiting-later : Waiting e i t (q + 1) (ahead + frame) (release + per) (w + frame)
      waiting-later = rw fixed.frame_is (record {
        ahead-is = omega (arith, s.ahead-is);
        release-is = omega (arith, s.release-is, fixed.period-is);
        under = under-later e i q queued;
        least = omega (arith, s.least);
        most = in_span;
        step = later-step;
      })

      pub later-falls : left (w + frame) < left w
      later-falls = left-falls (omega (arith, in_span, fixed.span.most)) (omega (arith, fixed.frame_is))

  -- ---- what was found, with instance q
  module _ {q limit v : ℕ} {x r : Worst} (a : Instance e i q v) where
    pub found-more : Found e i t q limit x → Worse x q v r → r.response ≤ limit → Found e i t (q + 1) limit r
    found-more (nothing z y) (kept h k) l =
        let none : v ≡ 0 = let u : x.response ≡ 0 = rw y in omega arith in
        so_far (rw (k, y)) (rw (k, y, z) (longest-first (rw (z, none) at a))) l
    found-more (nothing z y) (longer h k) l = so_far (rw (k, y)) (rw (k, z) (longest-first (rw z at a))) l
    found-more (so_far z y m) (kept h k) l = so_far (rw k z) (rw k (longest-kept y a h)) l
    found-more (so_far z y m) (longer h k) l = so_far (rw k z) (rw k (longest-next y a h)) l

    pub found-above : Found e i t q limit x → Worse x q v r → q < count → limit < r.response → Sought e i t limit r
    found-above f (kept h k) b l = absurd (let u : r.response ≡ x.response = rw k in omega (arith, found_within f))
    found-above f (longer h k) b l = record {
      span-is = rw k (found-span f);
      inside = rw k (omega (arith, fixed.count-is));
      here = rw k a;
      whole = λ m. absurd (omega arith);
    }

  -- at the loop's end
  pub found_all : {q limit : ℕ} {x : Worst} → Found e i t q limit x → q ≡ count → Sought e i t limit x
  found_all (nothing z y) h = absurd (omega (arith, arrives fixed.member t fixed.span.busy.from, fixed.count-is))
  found_all {q} {limit} {x} (so_far z y m) h =
      let all : Longest e i (arrivals e i t) x.instance x.response = rw (h ∙ fixed.count-is) at y in
      record { span-is = z; inside = all.inside; here = all.here; whole = λ l. record { busy = fixed.span.busy; longest = all } }

-- ---- what the search shows
module _ {e : List ℕ} {i t : ℕ} (m : Member e i) (span : Span e i t) where
  module _ {due : ℕ} {r : Worst} (d : due ≡ deadline e i) (s : Sought e i t due r) where
    pub sought-met : r.response ≤ due → Written e i r.response
    sought-met h = met t r.instance (s.whole h) (omega arith)

    pub sought-missed : due < r.response → Written e i 0
    sought-missed h =
        let x = response-exists m span.busy in
        missed t x.0 x.1 x.2 (omega (arith, x.2.longest.most r.instance r.response s.inside s.here)) refl

  -- no response is longer than the jitter and the busy period
  pub sought-worst : {limit : ℕ} {r : Worst} → Sought e i t limit r → longest_busy + longest_period ≤ limit → Response e i r.span r.instance r.response
  sought-worst {limit} {r} s h =
      let a = s.here in
      let most = waits-within e i span.busy r.instance s.inside (least-is-under (queue-rises e i r.instance) (omega arith) a.queued) in
      rw s.span-is (s.whole (omega (arith, a.is, most, span.most, m.rules.jitter-below, m.rules.period-most)))
