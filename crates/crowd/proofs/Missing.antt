-- Fewer numbers than others, all among these, lack one of them.
use Prim.Native.Nat.{ℕ, zero, suc, ◌<◌, ◌≤◌}
use mathlib.Core.Path.{sym, ap, subst, ◌∙◌}
use mathlib.Core.List.{List}
use mathlib.Core.Logic.{◌⊎◌, inl, inr, ⊎_elim}
use native.Mathlib.Nat.{eq-or-lt_of_le, le_of_suc-le-suc}
use native.Mathlib.Decide.{ℕ_discrete}
use native.Mathlib.Omega.{arith}
use lib.ListN.{get_or}
use Rattle.rest.specs.Free.{Slot}
use Rattle.rest.specs.Part.{Numbers}
use Rattle.planner.proofs.Parting.{slot-before}

-- x is among the first h words of k, or it is not
has-slot : (k : List ℕ) (h x : ℕ) → Slot k h x ⊎ (Slot k h x → ⊥)
has-slot k zero x = inr (λ S. let low = S.among in omega arith)
has-slot k (suc h) x =
    ⊎_elim
    (λ S. inl record { slot = S.slot; among = omega (arith, S.among); is = S.is })
    (λ none. elim (ℕ_discrete (get_or k h 0) x) [
      | yes e ↦ inl record { slot = h; among = omega arith; is = e }
      | no u ↦ inr (λ S. ⊎_elim
          (λ e. u (ap (λ (i : ℕ). get_or k i 0) (sym e) ∙ S.is))
          (λ g. none record { slot = S.slot; among = g; is = S.is })
          (eq-or-lt_of_le (le_of_suc-le-suc S.among)))
    ])
    (has-slot k h x)

-- slot `at` of the first n of m has a number that is not among the first h of k
pub record Missing (k : List ℕ) (h : ℕ) (m : List ℕ) (n : ℕ) : Type 0 where
  pub at : ℕ
  pub below : at < n
  pub lacks : Slot k h (get_or m at 0) → ⊥

module _ {p k m : List ℕ} {h n : ℕ} (K : Numbers p k h) (N : Numbers p m n) where
  -- the first s have their slots, or one lacks
  seek : (s : ℕ) → s ≤ n → ((i : ℕ) → i < s → Slot k h (get_or m i 0)) ⊎ Missing k h m n
  seek zero l = inl (λ i g. absurd (omega arith))
  seek (suc s) l =
      ⊎_elim
      (λ all. ⊎_elim
      (λ S. inl (λ i g. ⊎_elim (λ e. subst (λ (j : ℕ). Slot k h (get_or m j 0)) (sym e) S) (all i) (eq-or-lt_of_le (le_of_suc-le-suc g))))
      (λ none. inr record { at = s; below = omega arith; lacks = none })
      (has-slot k h (get_or m s 0)))
      inr
      (seek s (omega arith))

  -- where all have one, the slot of the number in slot s is not before s
  late : (all : (i : ℕ) → i < n → Slot k h (get_or m i 0)) (s : ℕ) (l : s < n) → s ≤ (all s l).slot
  late all zero l = omega arith
  late all (suc s) l =
      let g : s < n = omega arith in
      let a = all s g in
      let b = all (suc s) l in
      let before = slot-before K a.slot b.slot a.among b.among (omega (arith, a.is, b.is, N.rising s (suc s) (omega arith) l)) in
      omega (arith, late all s g)

  pub missing : h < n → Missing k h m n
  missing l = ⊎_elim (λ all. let g : h < n = l in absurd (omega (arith, late all h g, (all h g).among))) (λ M. M) (seek n (omega arith))
