-- A list changed every so many places, step by step.
use Prim.Native.Nat.{ℕ, suc, ◌+◌, ◌*◌, ◌-◌, ◌/◌, ◌≤◌, ◌<◌}
use mathlib.Core.Path.{◌≡◌, refl, sym, ap, subst, ◌∙◌}
use mathlib.Core.List.{List}
use mathlib.Core.Logic.{◌⊎◌, inl, inr}
use native.Mathlib.Nat.{eq-or-lt_of_le, le_of_suc-le-suc, mul-le-mul_right}
use native.Mathlib.Decide.{dec_lt, ℕ_discrete}
use native.Mathlib.Omega.{arith}
use lib.Arith.{digits_div}
use lib.ListN.{length, get_or, set, length-set}
use lib.Seq.{get_or-set_same, get_or-set_other}
use Rattle.basics.specs.Strides.{Strode}

-- so far: of the numbers r, r + step, .. those before i, which is the next
pub record Striding (R : ℕ → ℕ → Type 0) (place : ℕ → ℕ) (r step n i : ℕ) (t t' : List ℕ) : Type 0 where
  pub long : length t' ≡ length t
  pub turn : ℕ
  pub now-at : i ≡ r + turn * step
  pub before : (k : ℕ) → k < turn → r + k * step < n
  pub here : (k : ℕ) → k < turn → R (get_or t (place (r + k * step)) 0) (get_or t' (place (r + k * step)) 0)
  pub elsewhere : (m : ℕ) → ((k : ℕ) → k < turn → ¬ (m ≡ place (r + k * step))) → get_or t' m 0 ≡ get_or t m 0

-- no two numbers have one place
module _ (R : ℕ → ℕ → Type 0) (place : ℕ → ℕ) (apart : (x y : ℕ) → place x ≡ place y → x ≡ y) where
  pub striding-none : (r step n : ℕ) (t : List ℕ) → Striding R place r step n r t t
  striding-none r step n t = record {
    long = refl;
    turn = 0;
    now-at = omega arith;
    before = λ k l. absurd (omega arith);
    here = λ k l. absurd (omega arith);
    elsewhere = λ m h. refl;
  }

  module _ {r step n i : ℕ} {t t' : List ℕ} (s : Striding R place r step n i t t') (some : 1 ≤ step) where
    -- i is none of the numbers before it
    not-before : (k : ℕ) → k < s.turn → ¬ (i ≡ r + k * step)
    not-before k l e = omega (arith, s.now-at, mul-le-mul_right {m = suc k} {n = s.turn} step l)

    -- its word is as it was
    pub untouched : get_or t' (place i) 0 ≡ get_or t (place i) 0
    untouched = s.elsewhere (place i) (λ k l e. not-before k l (apart i (r + k * step) e))

    pub striding-more : {m next x : ℕ} → i < n → m ≡ place i → m < length t' → next ≡ i + step → R (get_or t' m 0) x → Striding R place r step n next t (set t' m x)
    striding-more {m} {next} {x} li em fits en h = record {
      long = length-set t' _ _ ∙ s.long;
      turn = suc s.turn;
      now-at = omega (arith, s.now-at);
      before = λ k l. elim (eq-or-lt_of_le (le_of_suc-le-suc l)) [
        | inl e ↦ omega (arith, s.now-at, ap (◌* step) e)
        | inr f ↦ s.before k f
      ];
      here = λ k l. elim (eq-or-lt_of_le (le_of_suc-le-suc l)) [
        | inl e ↦ subst (λ (y : ℕ). R (get_or t (place y) 0) (get_or (set t' m x) (place y) 0)) (omega (arith, s.now-at, ap (◌* step) e)) now
        | inr f ↦ subst (R (get_or t (place (r + k * step)) 0)) (sym (get_or-set_other t' m (place (r + k * step)) x 0 (λ e. not-before k f (apart i (r + k * step) (sym em ∙ sym e))))) (s.here k f)
      ];
      elsewhere = λ y g.
          get_or-set_other t' m y x 0 (λ e. g s.turn (omega arith) (e ∙ em ∙ ap place s.now-at))
          ∙ s.elsewhere y (λ k l. g k (omega arith));
    }
      where
        now : R (get_or t (place i) 0) (get_or (set t' m x) (place i) 0)
        now = subst (λ (y : ℕ). R (get_or t (place i) 0) (get_or (set t' m x) y 0)) em
            (subst (R (get_or t (place i) 0)) (sym (get_or-set_same t' m x 0 fits)) (subst (λ (y : ℕ). R y x) (ap (λ (y : ℕ). get_or t' y 0) em ∙ untouched) h))

    pub striding-all : n ≤ i → Strode R place r step n t t'
    striding-all h = record {
      long = s.long;
      here = λ k l. elim (dec_lt k s.turn) [
        | yes f ↦ s.here k f
        | no f ↦ absurd (omega (arith, s.now-at, mul-le-mul_right {m = s.turn} {n = k} step (omega arith)))
      ];
      elsewhere = λ m g. s.elsewhere m (λ k l. g k (s.before k l));
    }

-- a number is one of r, r + step, .., or none
pub on-stride : (r step i : ℕ) → 1 ≤ step → ((k : ℕ) × (i ≡ r + k * step)) ⊎ ((k : ℕ) → ¬ (i ≡ r + k * step))
on-stride r step i h =
    elim (ℕ_discrete i (r + (i - r) / step * step)) [
      | yes e ↦ inl ((i - r) / step, e)
      | no n ↦ inr (λ k e. n (e ∙ ap (λ (q : ℕ). r + q * step) (sym (ap (◌/ step) (omega arith) ∙ digits_div k {r = 0} h))))
    ]
