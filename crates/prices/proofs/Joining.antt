-- Laws of the cells in which some messages may be sent, row by row and in a row message by message.
use Prim.Native.Nat.{ℕ, ◌+◌, ◌%◌, ◌<◌}
use mathlib.Core.Path.{◌≡◌, sym, subst, ◌∙◌}
use mathlib.Core.Bool.{Bool, false}
use mathlib.Core.List.{List}
use native.Mathlib.Omega.{arith}
use borrow.Author.Count.{below_more}
use borrow.Author.Tests.{eq-eqb}
use lib.Bits.{bit_or}
use lib.Dec.{eqb}
use lib.ListN.{length, get_or, set}
use lib.Seq.{get_or-set_same, get_or-set_other}
use Rattle.basics.specs.Bits.{bit, Has}
use Rattle.basics.proofs.Bits.{or_left, or_right}
use Rattle.basics.proofs.Tests.{not-both}
use Rattle.rules.specs.Problem.{messages, repeat}
use Rattle.places.specs.Places.{table_at}
use Rattle.prices.specs.Prices.{JointIn, Joint}

module _ (p a : List ℕ) (l i : ℕ) where
  pub joint-in-set : {n x s at : ℕ} → s ≡ repeat p n → at ≡ table_at n (i % s) → JointIn p a l i n x → JointIn p a l i (n + 1) (bit_or x (get_or a at 0))
  joint-in-set {n} {x} {s} {at} e q J =
      let f : at ≡ table_at n (i % repeat p n) = subst (λ (s : ℕ). at ≡ table_at n (i % s)) e q in
      record {
        has = λ j c g. below_more (λ j. Has l j → Has (get_or a (table_at j (i % repeat p j)) 0) c → Has (bit_or x (get_or a at 0)) c) n
            (λ j k h d. or_left x _ c (J.has j c k h d))
            (λ h d. or_right x _ c (subst (λ (k : ℕ). Has (get_or a k 0) c) (sym f) d))
            j g;
      }

  pub joint-in-skip : {n x : ℕ} {b : Bool} → b ≡ eqb (bit l n) 1 → b ≡ false → JointIn p a l i n x → JointIn p a l i (n + 1) x
  joint-in-skip {n} {x} e f J = record {
    has = λ j c g. below_more (λ j. Has l j → Has (get_or a (table_at j (i % repeat p j)) 0) c → Has x c) n
        (λ j k h d. J.has j c k h d)
        (λ h d. not-both (eq-eqb (bit l n) 1 h) (sym e ∙ f))
        j g;
  }

-- the next row
pub joint-next : {p a : List ℕ} {l n x : ℕ} {u : List ℕ} → n < length u → JointIn p a l n (messages p) x → Joint p a l n u → Joint p a l (n + 1) (set u n x)
joint-next {p} {a} {l} {n} {x} {u} room I J = record {
  each = below_more _ n
      (λ i h. subst (λ (y : ℕ). JointIn p a l i (messages p) y) (sym (get_or-set_other u n i x 0 (λ d. omega arith))) (J.each i h))
      (subst (λ (y : ℕ). JointIn p a l n (messages p) y) (sym (get_or-set_same u n x 0 room)) I);
}
