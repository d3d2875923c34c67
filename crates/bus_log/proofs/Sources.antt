-- The turns of one source among occurrences, in their order.
use Rattle.std.proofs.Common.{ℕ, ◌<◌, ◌≡◌, refl, sym, ap, ap₂, subst, Bool, true, false, List, [], ◌∷◌, ◌++◌, ⊎_elim, lt_of_mul-lt-mul_right, arith, eq-eqb, eqb-true, eqb}
use mathlib.Core.List.Memᴰ
use mathlib.Core.List.{Memᴰ}
use Rattle.basics.specs.Rising.{Rising, none, next}
use Rattle.basics.proofs.Rising.{head-before, tail-rises}
use Rattle.basics.proofs.Tests.{not-both}
use Rattle.rules.specs.Problem.{period}
use Rattle.rules.specs.Sends.{Source, reference, message, begins, send_at}
use Rattle.bus_log.specs.Span.{Occurrence, Before}
use Rattle.bus_log.proofs.Turns.{occurrence}

-- t is the source s
abbrev pub is_of : Source → Source → Bool
is_of reference reference = true
is_of reference (message k) = false
is_of (message j) reference = false
is_of (message j) (message k) = eqb k j

abbrev pub turn_if : Bool → ℕ → List ℕ
turn_if true n = n ∷ []
turn_if false n = []

unfoldable pub turns_of : Source → List Occurrence → List ℕ
turns_of s [] = []
turns_of s (o ∷ l) = turn_if (is_of s o.source) o.turn ++ turns_of s l

is-of : (s t : Source) → is_of s t ≡ true → t ≡ s
is-of reference reference e = refl
is-of reference (message k) e = not-both e refl
is-of (message j) reference e = not-both e refl
is-of (message j) (message k) e = ap message (eqb-true k j e)

of-itself : (s : Source) → is_of s s ≡ true
of-itself reference = refl
of-itself (message j) = eq-eqb j j refl

-- n is that turn, and the test passed
record Taken (b : Bool) (t n : ℕ) : Type 0 where
  passed : b ≡ true
  is : n ≡ t

taken : (b : Bool) (t n : ℕ) → Memᴰ n (turn_if b t) → Taken b t n
taken true t n m = record { passed = refl; is = Memᴰ.eq_of_singleton m }
taken false t n m = absurd (Memᴰ.not-nil m)

pub in_turns : (s : Source) (l : List Occurrence) (n : ℕ) → Memᴰ (occurrence s n) l → Memᴰ n (turns_of s l)
unfolding turns_of
in_turns s [] n m = absurd (Memᴰ.not-nil m)
in_turns s (o ∷ l) n m =
    ⊎_elim
    (λ e. rw (← e, of-itself s) (Memᴰ.head refl))
    (λ k. Memᴰ.append_right (turn_if (is_of s o.source) o.turn) (in_turns s l n k))
    (Memᴰ.cases_cons m)

pub of_turns : (s : Source) (l : List Occurrence) (n : ℕ) → Memᴰ n (turns_of s l) → Memᴰ (occurrence s n) l
unfolding turns_of
of_turns s [] n m = absurd (Memᴰ.not-nil m)
of_turns s (o ∷ l) n m =
    ⊎_elim
    (λ k. let h = taken _ _ n k in Memᴰ.head (ap₂ occurrence (sym (is-of s o.source h.passed)) h.is))
    (λ k. Memᴰ.tail (of_turns s l n k))
    (Memᴰ.append_cases (turn_if (is_of s o.source) o.turn) m)

-- they rise where the occurrences do
turn-before : (p w : List ℕ) (s : Source) (n m : ℕ) → begins p w s n < begins p w s m → n < m
unfolding send_at
turn-before p w reference n m l = lt_of_mul-lt-mul_right _ l
turn-before p w (message j) n m l = lt_of_mul-lt-mul_right (period p j) {m = n} {n = m} (omega arith)

first-rises : (b : Bool) (n : ℕ) (l : List ℕ) → (b ≡ true → (m : ℕ) → Memᴰ m l → n < m) → Rising ◌<◌ l → Rising ◌<◌ (turn_if b n ++ l)
first-rises true n l h r = next (h refl) r
first-rises false n l h r = r

pub turns-rise : (p w : List ℕ) (s : Source) (l : List Occurrence) → Rising (Before p w) l → Rising ◌<◌ (turns_of s l)
unfolding turns_of
turns-rise p w s [] r = none
turns-rise p w s (o ∷ l) r = first-rises (is_of s o.source) o.turn (turns_of s l) first (turns-rise p w s l (tail-rises r))
  where
    first : is_of s o.source ≡ true → (m : ℕ) → Memᴰ m (turns_of s l) → o.turn < m
    first e m k =
        turn-before p w s o.turn m
        (subst (λ (t : Source). begins p w t o.turn < begins p w s m) (is-of s o.source e) (head-before r (occurrence s m) (of_turns s l m k)))
