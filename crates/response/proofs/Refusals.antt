-- Each refusal of the call in the words of the record of rules: the chain of tests gives it exactly then.
use Prim.Native.Nat.{ℕ, ◌<◌}
use native.Mathlib.Decide.{dec_le}
use native.Mathlib.Omega.{arith}
use mathlib.Core.Path.{◌≡◌, refl, sym}
use mathlib.Core.Bool.{Bool, true, false}
use mathlib.Core.Logic.{inl, inr}
use mathlib.Core.List.{List}
use lib.ListN.{length}
use lib.Dec.{ltb}
use borrow.Author.Tests.{ltb-true}
use Rattle.basics.proofs.Tests.{not-both}
use Rattle.rules.specs.declared.Refusal.{Refusal}
use Rattle.rules.specs.declared.Refusal.TheVariants.{EventWords, Event, Endless, Room}
use Rattle.rules.specs.Refusal.{guard, ◌⊕◌, first_fault}
use Rattle.rules.specs.Paper.{room_fault}
use Rattle.rules.proofs.Faults.{clear-guard, bad-guard, bad-either, first-at, bad-first, clear_first}
use Rattle.response.specs.Events.{count, Rules, Whole, Sound, event_wrong, words_wrong, event_fault, events_fault}
use Rattle.response.specs.Times.{Busy, longest_busy, endless}
use Rattle.response.specs.Promise.{endless_fault, call_fault}
use Rattle.response.specs.Parts.{Span}
use Rattle.response.proofs.Faults.{fault-bad, fault-clear, endless-bad, endless-clear, events-words, events-each, ended-clear, room-bad, call-events, call-rest, clear_whole, whole-clear, clear-rules, rules-clear, clear-sound, sound-clear}
use Rattle.response.proofs.Figures.{member}
use Rattle.response.proofs.Spans.{span-ends, ends-span}
use Rattle.std.specs.Prelude.{Err}

-- why a call with so much room is refused
pub data Because (e : List ℕ) (room : ℕ) : Refusal → Type 0 where
  not-whole : ¬ Whole e → Because e room EventWords
  first-wrong : (j : ℕ) → Whole e → j < count e → ((i : ℕ) → i < j → Rules e i) → ¬ Rules e j → Because e room (Event j)
  first-endless : (j : ℕ) → Sound e → j < count e → ((i : ℕ) → i < j → (t : ℕ) × Span e i t) → ((t : ℕ) → Busy e j t → longest_busy < t) → Because e room (Endless j)
  no_room : Sound e → ((i : ℕ) → i < count e → (t : ℕ) × Span e i t) → room < count e → Because e room Room

on : (b : Bool) → ¬ (b ≡ false) → b ≡ true
on true h = refl
on false h = absurd (h refl)

-- ---- the tests and the record, each way
module _ (e : List ℕ) where
  wrong-broken : (j : ℕ) → event_wrong e j ≡ true → ¬ Rules e j
  wrong-broken j h r = not-both h (rules-clear e j r)

  broken-wrong : (j : ℕ) → ¬ Rules e j → event_wrong e j ≡ true
  broken-wrong j h = on _ (λ q. h (clear-rules e j q))

  module _ (room : ℕ) where
    events-because : {q : Refusal} → events_fault e ≡ Err q → Because e room q
    unfolding events_fault
    events-because {q} h =
        elim (bad-either (guard (words_wrong (length e)) EventWords) (first_fault (count e) (event_fault e)) h) [
          | inl f ↦
              let g = bad-guard _ _ f in
              rw g.1 (not-whole (λ w. not-both g.0 (whole-clear e w)))
          | inr p ↦
              let r = bad-first (count e) (event_fault e) p.1 in
              let g = bad-guard _ _ r.here in
              rw g.1
              (first-wrong r.at (clear_whole e (clear-guard _ _ p.0)) r.below
              (λ i l. clear-rules e i (clear-guard _ _ (r.before i l)))
              (wrong-broken r.at g.0))
        ]

    ends : Sound e → (j : ℕ) → j < count e → endless e j ≡ false → (t : ℕ) × Span e j t
    ends s j l h = ends-span (member s l) h

    -- an event without a busy period up to the longest has none, or a longer one
    endless-longer : (j : ℕ) → endless e j ≡ true → (t : ℕ) → Busy e j t → longest_busy < t
    endless-longer j h t b =
        elim (dec_le t longest_busy) [
          | yes l ↦ not-both h (span-ends (record { busy = b; most = l }))
          | no l ↦ omega arith
        ]

    longer-endless : Sound e → (j : ℕ) → j < count e → ((t : ℕ) → Busy e j t → longest_busy < t) → endless e j ≡ true
    longer-endless s j l h =
        on _ (λ q. let x = ends s j l q in let a = h x.0 x.1.busy in let b = x.1.most in absurd (omega arith))

    pub because : {q : Refusal} → call_fault e room ≡ Err q → Because e room q
    unfolding call_fault
    because {q} h =
        elim (bad-either (events_fault e) (first_fault (count e) (endless_fault e) ⊕ room_fault (count e) room) h) [
          | inl f ↦ events-because f
          | inr p ↦
              let s = clear-sound e p.0 in
              elim (bad-either (first_fault (count e) (endless_fault e)) (room_fault (count e) room) p.1) [
                | inl f ↦
                    let r = bad-first (count e) (endless_fault e) f in
                    let g = bad-guard (endless e r.at) (Endless r.at) r.here in
                    rw g.1
                    (first-endless r.at s r.below
                    (λ i l. ends s i (omega (arith, r.below)) (clear-guard (endless e i) (Endless i) (r.before i l)))
                    (endless-longer r.at g.0))
                | inr o ↦
                    let g = bad-guard (ltb room (count e)) Room o.1 in
                    rw g.1 (no_room s (λ i l. ends s i l (clear-guard (endless e i) (Endless i) (clear_first (count e) (endless_fault e) o.0 i l))) (ltb-true _ _ g.0))
              ]
        ]

    pub refuses : {q : Refusal} → Because e room q → call_fault e room ≡ Err q
    refuses (not-whole h) = sym (call-events e room (events-words e (on _ (λ q. h (clear_whole e q)))) refl)
    refuses (first-wrong j w l b h) =
        let first = first-at (count e) (event_fault e) j (Event j) l (λ i k. fault-clear e i (rules-clear e i (b i k))) (fault-bad e j (broken-wrong j h)) in
        sym (call-events e room (events-each e (whole-clear e w) (sym first)) refl)
    refuses (first-endless j s l b h) =
        let first = first-at (count e) (endless_fault e) j (Endless j) l (λ i k. endless-clear e i (span-ends (b i k).1)) (endless-bad e j (longer-endless s j l h)) in
        sym (call-rest e room (sym (sound-clear e s)) refl (sym first) refl refl refl)
    refuses (no_room s b l) = sym (call-rest e room (sym (sound-clear e s)) refl (sym (ended-clear e (λ j k. span-ends (b j k).1))) refl (room-bad l) refl)
