-- The promised result, computed: searches like the code's find each event's busy period and longest response, and a call without a fault ends with these times.
-- So an example of the promise is a computation. Each test is an `elim`, so that only the side which it chooses is computed.
use Prim.Native.Nat.{ℕ, zero, suc, ◌+◌, ◌-◌, ◌<◌, ◌≤◌}
use mathlib.Core.Path.{◌≡◌, refl, sym, ap, ◌∙◌, subst}
use mathlib.Core.Bool.{Bool, true, false, not}
use mathlib.Core.List.{List, ◌++◌}
use native.Mathlib.Nat.{le_antisymm}
use native.Mathlib.Omega.{arith}
use lib.ListN.{length, get_or, drop}
use lib.Dec.{eqb, ltb, leb}
use borrow.Author.Tests.{eqb-true, eqb-false, ltb-true, ltb-false, leb-true, leb-false, not-true, not-false}
use Rattle.basics.proofs.Tests.{not-both}
use Rattle.basics.specs.Runs.{tab}
use Rattle.rules.specs.declared.Refusal.{Refusal}
use Rattle.rules.specs.declared.Refusal.TheVariants.{Endless}
use Rattle.rules.specs.Refusal.{guard, first_fault, Fault}
use Rattle.rules.proofs.Faults.{clear-guard, clear_first, first-same}
use Rattle.response.specs.declared.times.Worst.{Worst}
use Rattle.response.specs.Events.{longest_period, count, period, jitter, deadline, Sound, events_fault}
use Rattle.response.specs.Times.{takes, blocking, arrivals, demand, load, longest_busy, endless, Response, Written}
use Rattle.response.specs.Promise.{endless_fault, zeros, TimesWritten, Responding}
use Rattle.response.specs.Parts.{Member, Span, BusyOrNone, Ready, Worse, kept, longer, Sought}
use Rattle.response.proofs.Faults.{clear-sound, ready-clear, call-rest}
use Rattle.response.proofs.Figures.{member}
use Rattle.response.proofs.Filling.{times-all, zeros-all}
use Rattle.response.proofs.Turns.{left}
use Rattle.response.proofs.Spans.{Spanning, spanning-start, spanning-next, spanning-falls, spanning-found, spanning-none, span-ends}
use Rattle.response.proofs.Waiting.{Timing, Waiting, Found, waiting-start, waiting-next, waiting-later, next-falls, later-falls, instance-here, found-start, found-more, found-above, found_all, sought-met, sought-missed, sought-worst}
use Rattle.response.proofs.Results.{responding-done, responding-refused}
use Rattle.std.specs.Prelude.{Err, Ok, Option, None, Some, is_some, unwrap_or}

-- what a test chooses has a property that it has either way
chosen : {A : Type 0} (P : A → Type 0) (b : Bool) {x y : A} → (b ≡ true → P x) → (b ≡ false → P y) → P (elim b [ true ↦ x | false ↦ y ])
chosen P true f g = f refl
chosen P false f g = g refl

-- a turn fewer is left after each turn
fewer : {a b n : ℕ} → a < b → b < suc n → a < n
fewer h k = omega arith

-- ---- the busy period of event i
-- from a t that it lasts at least, found in n turns, if there is one
unfoldable pub climb : List ℕ → ℕ → ℕ → ℕ → Option ℕ
climb e i zero t = None
climb e i (suc n) t =
    elim (ltb longest_busy t) [
      | true ↦ None
      | false ↦ elim (eqb (load e i t) t) [ true ↦ Some t | false ↦ climb e i n (load e i t) ]
    ]

abbrev pub climbed : List ℕ → ℕ → Option ℕ
climbed e i = climb e i (left 1 + 1) 1

-- its length, of an event that has one
unfoldable pub span : List ℕ → ℕ → ℕ
span e i = unwrap_or (climbed e i) 0

module _ {e : List ℕ} {i : ℕ} where
  climb-found : (n t : ℕ) → Spanning e i (blocking e i) (takes e i) t → left t < n → BusyOrNone e i (climb e i n t)
  unfolding climb
  climb-found zero t s h = absurd (omega arith)
  climb-found (suc n) t s h =
      chosen (BusyOrNone e i) (ltb longest_busy t) (λ above. spanning-none s (ltb-true _ _ above)) λ below.
      let l = ltb-false _ _ below in
      chosen (BusyOrNone e i) (eqb (load e i t) t) (λ again. spanning-found s refl refl l (eqb-true _ _ again)) λ other.
      climb-found n (load e i t) (spanning-next s refl refl) (fewer (spanning-falls s refl refl l (eqb-false _ _ other)) h)

  climbed-found : Member e i → BusyOrNone e i (climbed e i)
  climbed-found m = climb-found (left 1 + 1) 1 (spanning-start m refl refl refl) (omega arith)

-- what the search finds is there exactly where the event has a busy period
none_is : (e : List ℕ) (i : ℕ) (r : Option ℕ) → BusyOrNone e i r → not (is_some r) ≡ endless e i
none_is e i None q = sym q
none_is e i (Some t) s = sym (span-ends s)

some_is : (e : List ℕ) (i : ℕ) (r : Option ℕ) → BusyOrNone e i r → not (is_some r) ≡ false → Span e i (unwrap_or r 0)
some_is e i None q h = not-both refl h
some_is e i (Some t) s h = s

-- ---- its longest response, or the first above the limit
-- x, or instance q with the response v where that is longer
unfoldable pub worse : Worst → ℕ → ℕ → Worst
worse x q v = elim (ltb x.response v) [ true ↦ record { span = x.span; instance = q; response = v } | false ↦ x ]

worse-is : (x : Worst) (q v : ℕ) → Worse x q v (worse x q v)
unfolding worse
worse-is x q v = chosen (Worse x q v) (ltb x.response v) (λ above. longer (ltb-true _ _ above) refl) (λ below. kept (ltb-false _ _ below) refl)

-- from instance q on, which waits at least w, found in n turns; x was found in the instances before it
unfoldable pub seek : List ℕ → ℕ → ℕ → ℕ → ℕ → ℕ → ℕ → ℕ → ℕ → Worst → Worst
seek e i t limit zero q ahead release w x = x
seek e i t limit (suc n) q ahead release w x =
    let next = ahead + demand e i (w + 1) in
    let found = worse x q (jitter e i + takes e i + w - release) in
    elim (leb (arrivals e i t) q) [
      | true ↦ x
      | false ↦ elim (not (eqb next w)) [
        | true ↦ seek e i t limit n q ahead release next x
        | false ↦ elim (ltb limit found.response) [
          | true ↦ found
          | false ↦ seek e i t limit n (q + 1) (ahead + takes e i) (release + period e i) (w + takes e i) found
        ]
      ]
    ]

-- in the busy period t
unfoldable pub worst : List ℕ → ℕ → ℕ → ℕ → Worst
worst e i t limit = seek e i t limit (left (blocking e i) + 1) 0 (blocking e i) 0 (blocking e i) (record { span = t; instance = 0; response = 0 })

module _ {e : List ℕ} {i t : ℕ} (limit : ℕ) (fixed : Timing e i t (takes e i) (period e i) (jitter e i + takes e i) (arrivals e i t)) where
  seek-sought :
      (n q ahead release w : ℕ) (x : Worst) → Waiting e i t q ahead release w → Found e i t q limit x → q ≤ arrivals e i t → left w < n →
      Sought e i t limit (seek e i t limit n q ahead release w x)
  unfolding seek
  seek-sought zero q ahead release w x s f b h = absurd (omega arith)
  seek-sought (suc n) q ahead release w x s f b h =
      let ends : Worst → Type 0 = Sought e i t limit in
      let next = ahead + demand e i (w + 1) in
      let v = jitter e i + takes e i + w - release in
      let found = worse x q v in
      chosen ends (leb (arrivals e i t) q) (λ all. found_all fixed f (le_antisymm b (leb-true _ _ all))) λ more.
      let l = leb-false _ _ more in
      chosen ends (not (eqb next w))
      (λ other. seek-sought n q ahead release next x (waiting-next fixed s l refl) f b (fewer (next-falls fixed s l refl (eqb-false _ _ (not-true _ other))) h)) λ same.
      let again = eqb-true _ _ (not-false _ same) in
      let here = instance-here fixed s l refl again in
      chosen ends (ltb limit found.response) (λ above. found-above fixed here f (worse-is x q v) l (ltb-true _ _ above)) λ below.
      seek-sought n (q + 1) (ahead + takes e i) (release + period e i) (w + takes e i) found
      (waiting-later fixed s l refl again) (found-more fixed here f (worse-is x q v) (ltb-false _ _ below)) (omega arith) (fewer (later-falls fixed s l refl again) h)

module _ {e : List ℕ} {i t : ℕ} (m : Member e i) (s : Span e i t) where
  worst-sought : (limit : ℕ) → Sought e i t limit (worst e i t limit)
  unfolding worst
  worst-sought limit =
      seek-sought limit (record { member = m; span = s; frame_is = refl; period-is = refl; own_is = refl; count-is = refl })
      (left (blocking e i) + 1) 0 (blocking e i) 0 (blocking e i) _ (waiting-start s refl) (found-start e i t limit) (omega arith) (omega arith)

-- ---- its time
unfoldable pub time : List ℕ → ℕ → ℕ
time e i =
    let r = (worst e i (span e i) (deadline e i)).response in
    elim (ltb (deadline e i) r) [ true ↦ 0 | false ↦ r ]

time-written : {e : List ℕ} {i : ℕ} → Member e i → Span e i (span e i) → Written e i (time e i)
unfolding time
time-written {e} {i} m s =
    let sought = worst-sought m s (deadline e i) in
    chosen (Written e i) (ltb (deadline e i) (worst e i (span e i) (deadline e i)).response)
    (λ above. sought-missed m s refl sought (ltb-true _ _ above))
    (λ below. sought-met m s refl sought (ltb-false _ _ below))

-- ---- the first event for which no busy period is found
unfoldable pub spans_fault : List ℕ → Fault
spans_fault e = first_fault (count e) (λ j. guard (not (is_some (climbed e j))) (Endless j))

module _ (e : List ℕ) (sound : Sound e) where
  spans-fault : spans_fault e ≡ first_fault (count e) (endless_fault e)
  unfolding spans_fault
  spans-fault = first-same (count e) _ _ (λ j l. ap (λ (b : Bool). guard b (Endless j)) (none_is e j (climbed e j) (climbed-found (member sound l))))

  span-clear : spans_fault e ≡ Ok tt → (i : ℕ) → i < count e → Span e i (span e i)
  unfolding spans_fault span
  span-clear h i l = some_is e i (climbed e i) (climbed-found (member sound l)) (clear-guard _ _ (clear_first (count e) _ h i l))

-- ---- the laws of the call
-- the longest response of event i, and the instance that has it: none is above the longest busy period and period together
abbrev pub longest : List ℕ → ℕ → Worst
longest e i = worst e i (span e i) (longest_busy + longest_period)

pub computed-response :
    (e : List ℕ) (i : ℕ) {r : Worst} → events_fault e ≡ Ok tt → spans_fault e ≡ Ok tt → i < count e → longest e i ≡ r →
    Response e i r.span r.instance r.response
computed-response e i f h l q =
    let s = clear-sound e f in
    let m = member s l in
    let t = span-clear e s h i l in
    rw (← q) (sought-worst m t (worst-sought m t (longest_busy + longest_period)) (omega arith))

-- a refusal for want of a busy period
pub computed-endless : (e d : List ℕ) {q : Refusal} → events_fault e ≡ Ok tt → spans_fault e ≡ Err q → Responding e d d (Err q)
computed-endless e d f h =
    let s = clear-sound e f in
    responding-refused e d (call-rest e (length d) (sym f) refl (sym h ∙ spans-fault e s) refl refl refl) refl

unfoldable pub times : List ℕ → List ℕ
times e = tab (time e) (count e)

-- a list by its elements
length-tab : (g : ℕ → ℕ) (n : ℕ) → length (tab g n) ≡ n
length-tab g zero = refl
length-tab g (suc n) = ap suc (length-tab (λ i. g (suc i)) n)

get_or-tab : (g : ℕ → ℕ) (n i : ℕ) → i < n → get_or (tab g n) i 0 ≡ g i
get_or-tab g zero i l = absurd (omega arith)
get_or-tab g (suc n) zero l = refl
get_or-tab g (suc n) (suc i) l = get_or-tab (λ k. g (suc k)) n i (omega arith)

-- the times, and what was in the buffer behind them
module _ (e d : List ℕ) (room : count e ≤ length d) where
  long : length (times e) ≡ count e
  unfolding times
  long = length-tab (time e) (count e)

  at : (i : ℕ) → i < count e → get_or (times e) i 0 ≡ time e i
  unfolding times
  at i l = get_or-tab (time e) (count e) i l

  written : Sound e → spans_fault e ≡ Ok tt → TimesWritten e d (times e ++ drop (count e) d) (count e)
  written s h = times-all d (times e) (count e) room long (λ i l. subst (λ (t : ℕ). Written e i t) (sym (at i l)) (time-written (member s l) (span-clear e s h i l)))

  counted : zeros (times e) (count e) ≡ zeros (times e ++ drop (count e) d) (count e)
  counted = sym (zeros-all d (times e) (count e) room long)

  pub computed :
      {x : List ℕ} {m : ℕ} → events_fault e ≡ Ok tt → spans_fault e ≡ Ok tt → times e ++ drop (count e) d ≡ x → zeros (times e) (count e) ≡ m →
      Responding e d x (Ok m)
  computed {x} {m} f h p q =
      let s = clear-sound e f in
      let ready : Ready e (length d) = record { sound = s; ended = λ i l. span-ends (span-clear e s h i l); fits = room } in
      responding-done e d (sym (ready-clear e (length d) ready)) refl (rw (← p) (written s h)) (rw (← p, ← q) counted)
