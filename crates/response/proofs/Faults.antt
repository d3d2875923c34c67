-- What is wrong with a call, step by step as the code finds it, and that the tests find nothing exactly where the record of rules is kept.
use Prim.Native.Nat.{ℕ, ◌%◌, ◌<◌, ◌≤◌}
use mathlib.Core.Path.{◌≡◌, refl, sym, ◌∙◌}
use mathlib.Core.Bool.{Bool, true, false, not, ◌||◌}
use mathlib.Core.List.{List}
use native.Mathlib.Omega.{arith}
use lib.ListN.{length}
use lib.Dec.{eqb, ltb}
use borrow.Author.Tests.{lt-ltb, le-ltb, lt-leb, eq-eqb, ne_eqb, eqb-true, eqb-false, ltb-false, leb-false, not-false}
use Rattle.basics.proofs.Tests.{or-false, within, inside, some-off, some-none}
use Rattle.rules.specs.declared.Refusal.{Refusal}
use Rattle.rules.specs.declared.Refusal.TheVariants.{EventWords, Event, Endless, Room}
use Rattle.rules.specs.Refusal.{◌⊕◌, first_fault, Fault}
use Rattle.rules.specs.Paper.{room_fault}
use Rattle.rules.proofs.Faults.{clear-guard, clear_both, first-clear, clear_first}
use Rattle.response.specs.Events.{event_words, most_words, longest_period, count, identifier, size, period, jitter, deadline, Rules, Whole, Sound, fields_wrong, repeated, event_wrong, words_wrong, event_fault, events_fault}
use Rattle.response.specs.Times.{endless}
use Rattle.response.specs.Promise.{endless_fault, call_fault}
use Rattle.response.specs.Parts.{Ready}
use Rattle.std.specs.Prelude.{Err, Ok}

-- ---- the code's steps
pub room-bad : {n room : ℕ} → room < n → Err Room ≡ room_fault n room
room-bad {n} {room} l = rw (lt-ltb room n l)

pub room-clear : {n room : ℕ} → n ≤ room → Ok tt ≡ room_fault n room
room-clear {n} {room} l = rw (le-ltb room n l)

-- from the words as they were read
pub wrong-is :
    (e : List ℕ) (j : ℕ) {i s t w d : ℕ} {fields again : Bool} →
    i ≡ identifier e j → s ≡ size e j → t ≡ period e j → w ≡ jitter e j → d ≡ deadline e j →
    fields ≡ fields_wrong i s t w d → again ≡ repeated e j → fields || again ≡ event_wrong e j
unfolding event_wrong
wrong-is e j i s t w d fields again = rw (fields, again, i, s, t, w, d)

pub fault-bad : (e : List ℕ) (j : ℕ) → event_wrong e j ≡ true → event_fault e j ≡ Err (Event j)
fault-bad e j h = rw h

pub fault-clear : (e : List ℕ) (j : ℕ) → event_wrong e j ≡ false → event_fault e j ≡ Ok tt
fault-clear e j h = rw h

pub endless-bad : (e : List ℕ) (j : ℕ) → endless e j ≡ true → endless_fault e j ≡ Err (Endless j)
endless-bad e j h = rw h

pub endless-clear : (e : List ℕ) (j : ℕ) → endless e j ≡ false → endless_fault e j ≡ Ok tt
endless-clear e j h = rw h

module _ (e : List ℕ) where
  pub events-words : words_wrong (length e) ≡ true → Err EventWords ≡ events_fault e
  unfolding events_fault
  events-words h = rw h

  pub events-each : {r : Fault} → words_wrong (length e) ≡ false → r ≡ first_fault (count e) (event_fault e) → r ≡ events_fault e
  unfolding events_fault
  events-each h q = rw h q

  module _ (room : ℕ) {f : Fault} (is : f ≡ events_fault e) where
    pub call-events : {q : Refusal} → f ≡ Err q → Err q ≡ call_fault e room
    unfolding call_fault
    call-events h = rw (← is, h)

    -- where the events have none, it is the first of the other two
    pub call-rest : {g h r : Fault} {n : ℕ} → f ≡ Ok tt → g ≡ first_fault (count e) (endless_fault e) → n ≡ count e → h ≡ room_fault n room → r ≡ g ⊕ h → r ≡ call_fault e room
    unfolding call_fault
    call-rest c g n h r = r ∙ rw (← is, c, g, h, n)

-- ---- the tests find nothing exactly where the record is kept: of the words, of event j, of events, of their busy periods and of a call
module _ (e : List ℕ) where
  pub clear_whole : words_wrong (length e) ≡ false → Whole e
  clear_whole h =
      let p = or-false (not (eqb (length e % event_words) 0)) (ltb most_words (length e)) h in
      let a : length e % event_words ≡ 0 = eqb-true _ _ (not-false _ p.0) in
      let b : length e ≤ most_words = ltb-false _ _ p.1 in
      record { words = omega arith; count_most = omega arith }

  pub whole-clear : Whole e → words_wrong (length e) ≡ false
  whole-clear w = rw (eq-eqb (length e % event_words) 0 (omega arith), le-ltb most_words (length e) (omega arith))

  pub clear-rules : (j : ℕ) → event_wrong e j ≡ false → Rules e j
  unfolding event_wrong repeated
  clear-rules j h =
      let all = or-false _ _ h in
      let deadlines = or-false _ _ all.0 in
      let due = within _ _ _ deadlines.1 in
      let jitters = or-false _ _ deadlines.0 in
      let periods = or-false _ _ jitters.0 in
      let time = within _ _ _ periods.1 in
      let sizes = or-false _ _ periods.0 in
      record {
        identifier-most = ltb-false _ _ sizes.0;
        size-most = ltb-false _ _ sizes.1;
        period-least = time.0;
        period-most = time.1;
        jitter-below = leb-false _ _ jitters.1;
        deadline-least = due.0;
        deadline-most = due.1;
        unlike-earlier = λ i l. eqb-false _ _ (some-none _ _ all.1 i l);
      }

  pub rules-clear : (j : ℕ) → Rules e j → event_wrong e j ≡ false
  unfolding event_wrong repeated
  rules-clear j r =
      rw (
        le-ltb 2047 (identifier e j) r.identifier-most,
        le-ltb 8 (size e j) r.size-most,
        inside (period e j) 1 longest_period r.period-least r.period-most,
        lt-leb (period e j) (jitter e j) r.jitter-below,
        inside (deadline e j) 1 (period e j) r.deadline-least r.deadline-most,
        some-off j (λ i. eqb (identifier e i) (identifier e j)) (λ i l. ne_eqb _ _ (r.unlike-earlier i l)),
      )

  pub clear-sound : events_fault e ≡ Ok tt → Sound e
  unfolding events_fault
  clear-sound h =
      let p = clear_both _ _ h in
      record {
        whole = clear_whole (clear-guard _ _ p.0);
        rules = λ j l. clear-rules j (clear-guard _ _ (clear_first _ _ p.1 j l));
      }

  pub sound-clear : Sound e → events_fault e ≡ Ok tt
  unfolding events_fault
  sound-clear s =
      rw (
        whole-clear s.whole,
        first-clear (count e) (event_fault e) (λ j l. fault-clear e j (rules-clear j (s.rules j l))),
      )

  pub ended-clear : ((j : ℕ) → j < count e → endless e j ≡ false) → first_fault (count e) (endless_fault e) ≡ Ok tt
  ended-clear h = first-clear (count e) (endless_fault e) (λ j l. endless-clear e j (h j l))

  module _ (room : ℕ) where
    pub clear-ready : call_fault e room ≡ Ok tt → Ready e room
    unfolding call_fault
    clear-ready h =
        let p = clear_both _ _ h in
        let q = clear_both _ _ p.1 in
        record {
          sound = clear-sound p.0;
          ended = λ j l. clear-guard (endless e j) (Endless j) (clear_first (count e) (endless_fault e) q.0 j l);
          fits = ltb-false _ _ (clear-guard _ _ q.1);
        }

    pub ready-clear : Ready e room → call_fault e room ≡ Ok tt
    ready-clear r = sym (call-rest e room (sym (sound-clear r.sound)) refl (sym (ended-clear r.ended)) refl (room-clear r.fits) refl)
