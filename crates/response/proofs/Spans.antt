-- The search for an event's busy period: t begins at 1, takes its load each turn, and so stays at or below every solution.
-- A t that comes again is therefore the busy period; and where t passes the longest, there is none.
use Prim.Native.Nat.{ℕ, ◌+◌, ◌*◌, ◌-◌, ◌<◌, ◌≤◌}
use mathlib.Core.Path.{◌≡◌, refl, sym, ap₂, subst, ◌∙◌}
use mathlib.Core.Bool.{true, false}
use mathlib.Core.List.{List}
use native.Mathlib.Nat.{mul-le-mul}
use native.Mathlib.Omega.{arith}
use lib.Dec.{eqb}
use lib.ListN.{length, get_or, set}
use lib.Seq.{get_or-set_same, get_or-set_other}
use borrow.Author.Count.{below_more}
use borrow.Author.Tests.{eq-eqb, ne_eqb, eqb-true, not-false}
use Rattle.basics.proofs.Fixed.{Under, under-start, under_next, under-least, under-below, least-exists, least-is-under}
use Rattle.basics.proofs.Steps.{stays, rises}
use Rattle.basics.proofs.Tests.{some_at, some-on, some-off}
use Rattle.rules.specs.declared.Refusal.{Refusal}
use Rattle.rules.specs.declared.Refusal.TheVariants.{Endless}
use Rattle.rules.specs.Refusal.{◌⊕◌, first_fault, Fault}
use Rattle.rules.specs.Paper.{room_fault}
use Rattle.rules.proofs.Faults.{first-at, bad-not-clear, clear_both}
use Rattle.response.specs.Events.{count, period, jitter, events_fault}
use Rattle.response.specs.Times.{takes, blocking, arrivals, demand, load, Busy, longest_busy, endless}
use Rattle.response.specs.Promise.{endless_fault, call_fault}
use Rattle.response.specs.Parts.{Member, Span, Spans, Noted, shortest_frame}
use Rattle.response.proofs.Faults.{endless-bad, endless-clear, ended-clear, call-rest}
use Rattle.response.proofs.Queue.{ceiling-some, load_step, load-rises}
use Rattle.response.proofs.Turns.{left, left-falls, left-first}
use Rattle.std.specs.Prelude.{Err, Ok}

module _ {e : List ℕ} {i : ℕ} (m : Member e i) where
  -- in any span the event comes at least once
  pub arrives : (t : ℕ) → 1 ≤ t → 1 ≤ arrivals e i t
  arrives t h = ceiling-some (t + jitter e i) (period e i) (omega arith) m.rules.period-least

  -- and so loads the bus with a frame
  pub loads : (t : ℕ) → 1 ≤ t → shortest_frame ≤ load e i t
  loads t h = omega (arith, mul-le-mul {n₁ = takes e i} {m₁ = 1} {n₂ = takes e i} {m₂ = arrivals e i t} (omega arith) (arrives t h))

  -- the busy period is at most every positive t whose load is at most t
  pub busy-under : {t : ℕ} → Busy e i t → (v : ℕ) → 1 ≤ v → load e i v ≤ v → t ≤ v
  busy-under b = (least-is-under (load-rises e i) (omega (arith, loads 1 (omega arith))) b).below

-- ---- the search
-- t is where the search begins, or the load of an earlier t
pub data Begun (e : List ℕ) (i t : ℕ) : Type 0 where
  at_first : t ≡ 1 → Begun e i t
  a-load : (v : ℕ) → v ≤ t → t ≡ load e i v → Begun e i t

-- the code's numbers for event i: its blocking, its frame, and a time that the bus is busy at least
pub record Spanning (e : List ℕ) (i blocked frame t : ℕ) : Type 0 where
  pub member : Member e i
  pub blocked-is : blocked ≡ blocking e i
  pub frame_is : frame ≡ takes e i
  pub under : Under (load e i) 1 t
  pub begun : Begun e i t

falls : {e : List ℕ} {i t : ℕ} → Member e i → t ≤ longest_busy → ¬ (load e i t ≡ t) → Begun e i t → left (load e i t) < left t
falls {e} {i} {t} m l h (at_first q) = rw q (left-first (loads m 1 (omega arith)))
falls {e} {i} {t} m l h (a-load v k q) =
    elim (load_step e i v t k) [
      | stays s ↦ absurd (h (sym (q ∙ s)))
      | rises r ↦ left-falls l (omega arith)
    ]

module _ {e : List ℕ} {i blocked frame : ℕ} where
  pub spanning-start : {t : ℕ} → Member e i → blocked ≡ blocking e i → frame ≡ takes e i → t ≡ 1 → Spanning e i blocked frame t
  spanning-start m b f q = record {
    member = m;
    blocked-is = b;
    frame_is = f;
    under = rw q (under-start 1 (omega (arith, loads m 1 (omega arith))));
    begun = at_first q;
  }

  module _ {t count more : ℕ} (s : Spanning e i blocked frame t) (c : count ≡ arrivals e i t) (d : more ≡ demand e i t) where
    next-is : blocked + (frame * count + more) ≡ load e i t
    next-is = ap₂ ◌+◌ s.blocked-is (ap₂ ◌+◌ (ap₂ ◌*◌ s.frame_is c) d)

    pub spanning-next : Spanning e i blocked frame (blocked + (frame * count + more))
    spanning-next = record {
      member = s.member;
      blocked-is = s.blocked-is;
      frame_is = s.frame_is;
      under = rw next-is (under_next (load-rises e i) s.under);
      begun = a-load t (omega (arith, next-is, s.under.grows)) next-is;
    }

    pub spanning-falls : t ≤ longest_busy → ¬ (blocked + (frame * count + more) ≡ t) → left (blocked + (frame * count + more)) < left t
    spanning-falls l h = rw next-is (falls s.member l (λ q. h (next-is ∙ q)) s.begun)

    pub spanning-found : t ≤ longest_busy → blocked + (frame * count + more) ≡ t → Span e i t
    spanning-found l h = record { busy = under-least s.under (sym next-is ∙ h); most = l }

  pub spanning-none : {t : ℕ} → Spanning e i blocked frame t → longest_busy < t → endless e i ≡ true
  unfolding endless
  spanning-none {t} s h =
      rw (some-off longest_busy (λ v. eqb (v + 1) (load e i (v + 1)))
      (λ k l. ne_eqb (k + 1) (load e i (k + 1)) (λ q. omega (arith, under-below s.under (k + 1) (omega arith) q))))

-- ---- what the test says
module _ {e : List ℕ} {i : ℕ} where
  pub span-ends : {t : ℕ} → Span e i t → endless e i ≡ false
  unfolding endless
  span-ends {t} s =
      let back : t - 1 + 1 ≡ t = let f = s.busy.from in omega arith in
      rw (some-on longest_busy (t - 1) (λ v. eqb (v + 1) (load e i (v + 1))) (let f = s.busy.from in let l = s.most in omega arith) (rw back (eq-eqb t (load e i t) s.busy.solves)))

  pub ends-span : Member e i → endless e i ≡ false → (t : ℕ) × Span e i t
  unfolding endless
  ends-span m h =
      let k = some_at longest_busy (λ v. eqb (v + 1) (load e i (v + 1))) (not-false _ h) in
      let l : k.0 < longest_busy = k.1 in
      let s : k.0 + 1 ≡ load e i (k.0 + 1) = eqb-true _ _ k.2 in
      let x = least-exists {b = 1} (load-rises e i) (omega (arith, loads m 1 (omega arith))) (k.0 + 1) (omega arith) (omega arith) in
      let b : x.0 ≤ k.0 + 1 = x.2 in
      (x.0, record { busy = x.1; most = omega arith })

-- ---- the busy periods as they are noted, event by event
pub spans-more : {e s : List ℕ} {n t : ℕ} → Spans e s n → n < length s → Span e n t → Spans e (set s n t) (n + 1)
spans-more {e} {s} {n} {t} f room here = record {
  each =
      below_more _ n
      (λ i l. subst (λ (v : ℕ). Span e i v) (sym (get_or-set_other s n i t 0 (λ q. omega arith))) (f.each i l))
      (subst (λ (v : ℕ). Span e n v) (sym (get_or-set_same s n t 0 room)) here);
}

pub noted-bad : {e s : List ℕ} {x : Fault} {q : Refusal} → Err q ≡ x → Noted e s x (Err q)
noted-bad h = record { fault-is = h; spans = λ z. bad-not-clear z refl }

-- at the first event without one, and at the end
module _ {e s : List ℕ} {n : ℕ} (f : Spans e s n) where
  pub noted-none : n < count e → endless e n ≡ true → Noted e s (first_fault (count e) (endless_fault e)) (Err (Endless n))
  noted-none l h = noted-bad (sym (first-at (count e) (endless_fault e) n (Endless n) l (λ k m. endless-clear e k (span-ends (f.each k m))) (endless-bad e n h)))

  pub noted-all : n ≡ count e → Noted e s (first_fault (count e) (endless_fault e)) (Ok tt)
  noted-all h =
      let all : Spans e s (count e) = subst (Spans e s) h f in
      record { fault-is = sym (ended-clear e (λ k m. span-ends (all.each k m))); spans = λ q. all }

-- of a call, where the events themselves have no fault
pub noted-rest :
    (e s : List ℕ) (room : ℕ) {n : ℕ} {f g h r : Fault} → f ≡ events_fault e → f ≡ Ok tt →
    Noted e s (first_fault (count e) (endless_fault e)) g → n ≡ count e → h ≡ room_fault n room → r ≡ g ⊕ h → Noted e s (call_fault e room) r
noted-rest e s room {g = g} {h = h} is c noted n k q = record {
  fault-is = call-rest e room is c noted.fault-is n k q;
  spans = λ z. noted.spans (clear_both g h (sym q ∙ z)).0;
}
