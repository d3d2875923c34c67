-- What an answer says in the paper's terms settles it.
use Prim.Native.Nat.{ℕ, ◌≤◌}
use mathlib.Core.Path.{◌≡◌, refl, sym, ap, ◌∙◌}
use mathlib.Core.Bool.{cond}
use native.Mathlib.Omega.{arith}
use native.Mathlib.Decide.{dec_le}
use mathlib.Core.List.{List, ◌++◌}
use lib.Dec.{eqb}
use lib.ListN.{length, drop}
use Rattle.rules.specs.declared.Paper.{Paper}
use Rattle.rules.specs.declared.Refusal.{Refusal}
use Rattle.rules.specs.declared.Refusal.TheVariants.{Length, Mark, Version, Header, Column, Identity, Timing, Triggers, ProposalLength, Range, Width, Late, Meeting, NoPlan, TooMany, Room, EventWords, Event, Endless, Unheld, Log}
use Rattle.rules.specs.Paper.{done, refused, paper, Answer, count_of, Answers}
use Rattle.rules.proofs.Faults.{bad-not-clear}
use Rattle.std.specs.Prelude.{Err, Ok}
use Rattle.rules.specs.Refusal.{Fault}

-- ---- a fault by its number and places
fault_at : ℕ → ℕ → ℕ → Fault
fault_at n j i =
    cond (eqb n 0) (Ok tt) (
    cond (eqb n 1) (Err Length) (
    cond (eqb n 2) (Err Mark) (
    cond (eqb n 3) (Err Version) (
    cond (eqb n 4) (Err (Header j)) (
    cond (eqb n 5) (Err (Column j)) (
    cond (eqb n 6) (Err (Identity j)) (
    cond (eqb n 7) (Err (Timing j)) (
    cond (eqb n 8) (Err (Triggers j)) (
    cond (eqb n 9) (Err ProposalLength) (
    cond (eqb n 10) (Err (Range j)) (
    cond (eqb n 11) (Err (Width j)) (
    cond (eqb n 12) (Err (Late j)) (
    cond (eqb n 13) (Err (Meeting j i)) (
    cond (eqb n 14) (Err NoPlan) (
    cond (eqb n 15) (Err TooMany) (
    cond (eqb n 16) (Err Room) (
    cond (eqb n 17) (Err EventWords) (
    cond (eqb n 18) (Err (Event j)) (
    cond (eqb n 19) (Err (Endless j)) (
    cond (eqb n 20) (Err (Unheld j)) (
    Err Log)))))))))))))))))))))

fault_in : Paper → Fault
fault_in p = fault_at p.number p.place p.second

back : (f : Fault) → fault_in (paper f) ≡ f
unfolding fault_at fault_in
back (Ok tt) = refl
back (Err Length) = refl
back (Err Mark) = refl
back (Err Version) = refl
back (Err (Header b)) = refl
back (Err (Column c)) = refl
back (Err (Identity j)) = refl
back (Err (Timing j)) = refl
back (Err (Triggers n)) = refl
back (Err ProposalLength) = refl
back (Err (Range j)) = refl
back (Err (Width j)) = refl
back (Err (Late j)) = refl
back (Err (Meeting j i)) = refl
back (Err NoPlan) = refl
back (Err TooMany) = refl
back (Err Room) = refl
back (Err EventWords) = refl
back (Err (Event j)) = refl
back (Err (Endless j)) = refl
back (Err (Unheld i)) = refl
back (Err Log) = refl

-- the law: number, place and second place settle a fault
pub paper-one : (f g : Fault) → paper f ≡ paper g → f ≡ g
paper-one f g e = sym (back f) ∙ ap fault_in e ∙ back g

-- 0 is no refusal's number
pub numbered : (q : Refusal) → 1 ≤ (refused q).number
unfolding fault_at fault_in
numbered q =
    elim (dec_le 1 (refused q).number) [
      | yes h ↦ h
      | no h ↦
          let e : (refused q).number ≡ 0 = omega arith in
          bad-not-clear (ap (λ (n : ℕ). fault_at n (refused q).place (refused q).second) e) (back (Err q))
    ]

pub not_done : {P : Type 0} (q : Refusal) → done ≡ refused q → P
not_done q e = bad-not-clear refl (paper-one (Ok tt) (Err q) e)

pub done-clear : (f : Fault) → (paper f).number ≡ 0 → f ≡ Ok tt
done-clear (Ok tt) e = refl
done-clear (Err q) e = absurd (let h = numbered q in omega arith)

-- ---- an answer: done with its figures x, or refused
pub data Told {A X : Type 0} (with : X → A) (refuse : Refusal → A) : A → Paper → X → Type 0 where
  answered : (x : X) → Told with refuse (with x) done x
  refusing : (q : Refusal) (x : X) → Told with refuse (refuse q) (refused q) x

-- the law: number, places and figures settle it
pub told-one : {A X : Type 0} {with : X → A} {refuse : Refusal → A} {r s : A} {p t : Paper} {x y : X} → Told with refuse r p x → Told with refuse s t y → p ≡ t → x ≡ y → r ≡ s
told-one {with = with} (answered x) (answered y) e f = ap with f
told-one (answered x) (refusing q y) e f = not_done q e
told-one (refusing q x) (answered y) e f = not_done q (sym e)
told-one {refuse = refuse} (refusing q x) (refusing u y) e f = ap refuse (let b : Err q ≡ Err u = paper-one (Err q) (Err u) e in cc)

-- ---- a call that writes
-- an answer is told by its number, its places and its count
pub told : (r : Answer) → Told Ok Err r (paper r) (count_of r)
told (Ok n) = answered n
told (Err q) = refusing q 0

module _ {x : Fault} {w d : List ℕ} where
  pub answers-refused : (q : Refusal) → x ≡ Err q → Answers x w d d (Err q)
  answers-refused q h = record { paper-is = rw h; count-is = rw h; buffer-is = rw h }

  pub answers-done : {n : ℕ} {e : List ℕ} → x ≡ Ok tt → length w ≡ n → e ≡ w ++ drop n d → Answers x w d e (Ok n)
  answers-done h l b = record { paper-is = rw h; count-is = rw (h, l); buffer-is = rw (h, l) b }

  -- two answers to one fault and one output are equal, and so is what they leave in the buffer
  pub answers_one : {e g : List ℕ} {r s : Answer} → Answers x w d e r → Answers x w d g s → (r ≡ s) × (e ≡ g)
  answers_one {r = r} {s = s} a b =
      (told-one (told r) (told s) (a.paper-is ∙ sym b.paper-is) (a.count-is ∙ sym b.count-is), a.buffer-is ∙ sym b.buffer-is)

  -- an answer that is done had no fault and wrote what it counts
  pub answers-clear : {n : ℕ} {e : List ℕ} → Answers x w d e (Ok n) → (x ≡ Ok tt) × (n ≡ length w)
  answers-clear a =
      let clear : x ≡ Ok tt = done-clear x (ap (λ (t : Paper). t.number) (sym a.paper-is)) in
      (clear, a.count-is ∙ rw clear)
