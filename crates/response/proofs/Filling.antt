-- The times as they are written, one by one, and the zeros among them as they are counted; and the buffer, which keeps what is behind them.
use Prim.Native.Nat.{ℕ, ◌+◌, ◌-◌, ◌<◌, ◌≤◌}
use mathlib.Core.Path.{◌≡◌, refl, sym, ap, ap₂, ◌∙◌, subst}
use mathlib.Core.Bool.{Bool, true, false}
use mathlib.Core.List.{List, ◌++◌}
use native.Mathlib.Omega.{arith}
use mir.Val.{bool_byte}
use lib.ListN.{length, get_or, set, drop, length-append, length-drop, get_or-append}
use lib.Seq.{get_or-set_same, get_or-set_other, get_or-append-add, get_or-drop}
use borrow.Author.Count.{below_none, below_more}
use Rattle.basics.specs.Sums.{only}
use Rattle.basics.proofs.Sums.{sum-next, sum_same}
use Rattle.response.specs.Times.{Written}
use Rattle.response.specs.Promise.{miss, zeros, TimesWritten}

pub times_none : (e d : List ℕ) → TimesWritten e d d 0
times_none e d = record { as_long = refl; each = below_none _; kept = λ i l. refl }

-- a test as the number that it counts
pub byte-is : (b : Bool) → bool_byte b ≡ only b 1
byte-is true = refl
byte-is false = refl

pub byte-most : (b : Bool) → bool_byte b ≤ 1
byte-most true = omega arith
byte-most false = omega arith

-- the next time t is stored
module _ (x : List ℕ) (n t : ℕ) (room : n < length x) where
  here : get_or (set x n t) n 0 ≡ t
  here = get_or-set_same x n t 0 room

  other : (i : ℕ) → i < n → get_or (set x n t) i 0 ≡ get_or x i 0
  other i l = get_or-set_other x n i t 0 (λ q. omega arith)

  pub each-more : {e : List ℕ} → ((i : ℕ) → i < n → Written e i (get_or x i 0)) → Written e n t → (i : ℕ) → i < n + 1 → Written e i (get_or (set x n t) i 0)
  each-more {e} f w = below_more _ n (λ i l. subst (λ (v : ℕ). Written e i v) (sym (other i l)) (f i l)) (subst (λ (v : ℕ). Written e n v) (sym here) w)

  pub zeros-more : zeros (set x n t) (n + 1) ≡ zeros x n + miss t
  zeros-more = sum-next n _ ∙ ap₂ ◌+◌ (sum_same n _ _ (λ i l. ap miss (other i l))) (ap miss here)

-- the n times x, in front of what the buffer d held
module _ (d x : List ℕ) (n : ℕ) (room : n ≤ length d) (long : length x ≡ n) where
  front : (i : ℕ) → i < n → get_or (x ++ drop n d) i 0 ≡ get_or x i 0
  front i l = get_or-append x (drop n d) 0 i (omega arith)

  behind : (i : ℕ) → n ≤ i → get_or (x ++ drop n d) i 0 ≡ get_or d i 0
  behind i l =
      let k : length x + (i - n) ≡ i = omega arith in
      let m : n + (i - n) ≡ i = omega arith in
      ap (λ (j : ℕ). get_or (x ++ drop n d) j 0) (sym k) ∙ get_or-append-add x (drop n d) (i - n) 0 ∙ get_or-drop n d (i - n) 0 ∙ ap (λ (j : ℕ). get_or d j 0) m

  pub times-all : {e : List ℕ} → ((i : ℕ) → i < n → Written e i (get_or x i 0)) → TimesWritten e d (x ++ drop n d) n
  times-all {e} f = record {
    as_long = length-append x (drop n d) ∙ rw (long, length-drop) (omega arith);
    each = λ i l. subst (λ (v : ℕ). Written e i v) (sym (front i l)) (f i l);
    kept = behind;
  }

  pub zeros-all : zeros (x ++ drop n d) n ≡ zeros x n
  zeros-all = sum_same n _ _ (λ i l. ap miss (front i l))
