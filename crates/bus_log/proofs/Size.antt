-- How many words are due: two for each reference message and each send, and so many as those are due in the span.
use Rattle.std.proofs.Common.{ℕ, ◌+◌, ◌*◌, ◌/◌, ◌<◌, ◌≡◌, refl, ap, ◌∙◌, Bool, true, false, List, [], ◌∷◌, ◌++◌, arith, lt-ltb, length}
use mathlib.Core.List.{Memᴰ}
use native.Mathlib.Nat.{div-eq_of_eq-mul_left}
use Rattle.basics.specs.Sums.{sum, only}
use Rattle.basics.proofs.Sums.{sum_same, sum-add, sum-zero, sum-times, sum-equal}
use Rattle.rules.specs.Problem.{rows, messages, repeat}
use Rattle.rules.specs.Sends.{Source, reference, message, OnBus}
use Rattle.rules.proofs.Bounds.{member, repeat-least}
use Rattle.proposal.specs.Accepted.{Accepted}
use Rattle.bus_log.specs.Span.{Occurrence, DueList, pairs, IsDue, cycle_sends, size}
use Rattle.bus_log.proofs.Turns.{repeat-divides, times-in}
use Rattle.bus_log.proofs.Sources.{is_of, turn_if, turns_of}
use Rattle.bus_log.proofs.Counting.{times-due}

-- two words for each occurrence
pub length_pairs : (p w : List ℕ) (l : List Occurrence) → length (pairs p w l) ≡ 2 * length l
unfolding pairs
length_pairs p w [] = refl
length_pairs p w (o ∷ l) = omega (arith, length_pairs p w l)

-- each occurrence is one of a source on the bus
module _ (p : List ℕ) where
  -- the sum over the reference and the messages
  abbrev over_sources : (Source → ℕ) → ℕ
  over_sources f = f reference + sum (messages p) (λ j. f (message j))

  once : (s : Source) → OnBus p s → over_sources (λ t. only (is_of t s) 1) ≡ 1
  once reference u = omega (arith, sum-zero (messages p) (λ j. 0) (λ j l. refl))
  once (message k) u = omega (arith, sum-equal (messages p) k 1 ∙ ap (λ (b : Bool). only b 1) (lt-ltb k (messages p) u))

  length-turn : (b : Bool) (n : ℕ) (l : List ℕ) → length (turn_if b n ++ l) ≡ only b 1 + length l
  length-turn true n l = omega arith
  length-turn false n l = omega arith

  pub length-sources : (l : List Occurrence) → ((o : Occurrence) → Memᴰ o l → OnBus p o.source) → length l ≡ over_sources (λ s. length (turns_of s l))
  unfolding turns_of
  length-sources [] h = omega (arith, sum-zero (messages p) (λ j. 0) (λ j l. refl))
  length-sources (o ∷ l) h =
      let rest = length-sources l (λ q m. h q (Memᴰ.tail m)) in
      let one = once o.source (h o (Memᴰ.head refl)) in
      let first = length-turn (is_of reference o.source) o.turn (turns_of reference l) in
      let others = sum_same (messages p) _ _ (λ j k. length-turn (is_of (message j) o.source) o.turn (turns_of (message j) l))
      ∙ sum-add (messages p) (λ j. only (is_of (message j) o.source) 1) (λ j. length (turns_of (message j) l)) in
      omega arith

module _ {p w : List ℕ} (a : Accepted p w) (span : ℕ) where
  -- a message is as often due in the span as in so many matrix cycles
  each-cycle : (j : ℕ) → j < messages p → span * rows p / repeat p j ≡ span * (rows p / repeat p j)
  each-cycle j l =
      let m = member a.formed l in
      rw (div-eq_of_eq-mul_left (repeat-least m) (repeat-divides m).is) (times-in m span)

  pub length-due : {l : List Occurrence} → DueList p w span l → length l ≡ cycle_sends p * span
  unfolding cycle_sends
  length-due {l} d =
      let all = length-sources p l (λ o m. (d.only o m).on-bus) in
      let references = times-due a span d reference tt in
      let sends = sum_same (messages p) _ _ (λ j k. times-due a span d (message j) k ∙ each-cycle j k) ∙ sum-times (messages p) span (λ j. rows p / repeat p j) in
      omega arith

  pub due-size : {x : List ℕ} → IsDue p w span x → length x ≡ size p span
  due-size d = rw (d.words, length_pairs p w d.list, length-due d.list-is)
