-- What the messages of a set pay at least, counted message by message.
use Prim.Native.Nat.{ℕ, ◌+◌, ◌<◌}
use mathlib.Core.Path.{◌≡◌, refl, sym, ap, ap₂, subst, ◌∙◌}
use mathlib.Core.Bool.{Bool, true, false}
use mathlib.Core.List.{List}
use native.Mathlib.Nat.{add-zero}
use native.Mathlib.Omega.{arith}
use borrow.Author.Count.{below_more}
use borrow.Author.Tests.{eqb-false}
use lib.Dec.{eqb}
use lib.ListN.{length, get_or, set}
use lib.Seq.{get_or-set_same, get_or-set_other}
use Rattle.basics.specs.Bits.{bit}
use Rattle.basics.specs.Sums.{sum}
use Rattle.basics.proofs.Sums.{sum-next, sum_same}
use Rattle.rules.specs.Problem.{repeat}
use Rattle.prices.specs.Prices.{among, Cheap, Owed}

pub owed_none : (p a x : List ℕ) (l : ℕ) (v : List ℕ) → Owed p a x l 0 v 0
unfolding sum
owed_none p a x l v = record { each = λ j h. absurd (omega arith); total = refl; most = omega arith }

-- a message of the set pays n, which is stored
pub owed-in : {p a x v : List ℕ} {l j s t n m : ℕ} {b : Bool} → Owed p a x l j v t → b ≡ eqb (bit l j) 1 → b ≡ true → j < length v → s ≡ repeat p j
    → Cheap a x j s n → m ≡ n → Owed p a x l (j + 1) (set v j n) (t + m)
owed-in {p} {a} {x} {v} {l} {j} {s} {t} {n} {m} O e h room is C q =
    let old : (k : ℕ) → k < j → get_or v k 0 ≡ get_or (set v j n) k 0 = λ k g. sym (get_or-set_other v j k n 0 (λ d. omega arith)) in
    let new : n ≡ get_or (set v j n) j 0 = sym (get_or-set_same v j n 0 room) in
    let paid : m ≡ among l j (get_or (set v j n) j 0) = rw (sym e ∙ h) (q ∙ new) in
    record {
      each = below_more _ j
          (λ k g H. subst (λ (y : ℕ). Cheap a x k (repeat p k) y) (old k g) (O.each k g H))
          (λ H. subst (λ (y : ℕ). Cheap a x j (repeat p j) y) new (subst (λ (y : ℕ). Cheap a x j y n) is C));
      total = ap₂ ◌+◌ (O.total ∙ sum_same j _ _ (λ k g. ap (λ (y : ℕ). among l k y) (old k g))) paid ∙ sym (sum-next j _);
      most = let first = O.most in let other = C.most in omega arith;
    }

-- no other message pays
pub owed-out : {p a x v : List ℕ} {l j t : ℕ} {b : Bool} → Owed p a x l j v t → b ≡ eqb (bit l j) 1 → b ≡ false → Owed p a x l (j + 1) v t
owed-out {p} {a} {x} {v} {l} {j} {t} O e h =
    let none : 0 ≡ among l j (get_or v j 0) = rw (sym e ∙ h) refl in
    record {
      each = below_more _ j O.each (λ H. absurd (eqb-false (bit l j) 1 (sym e ∙ h) H));
      total = sym (add-zero t) ∙ ap₂ ◌+◌ O.total none ∙ sym (sum-next j _);
      most = let first = O.most in omega arith;
    }
