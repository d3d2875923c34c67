-- The walk over the messages that looks for those without a kept placement: what it knows behind the first j of them.
use Rattle.std.proofs.Common.{◌≡◌, ℕ, zero, suc, ◌+◌, ◌<◌, ◌≤◌, true, false, Bool, not, List, [], ◌∷◌, ◌++◌, length, get_or, refl, sym, ap, ◌∙◌, arith, below_none, below_more, length-append, inl, inr, eq-or-lt_of_le}
use Rattle.std.proofs.Math.Seq.{get_or-append_seam}
use Rattle.std.proofs.lemmas.List.{get_or_append_left}
use Rattle.basics.specs.Sums.{sum, only}
use Rattle.basics.proofs.Sums.{sum-next}
use Rattle.basics.proofs.Tests.{not-both}
use Rattle.kept.specs.Kept.{keeps}
use Rattle.rest.specs.Free.{free_of, Free}

-- ---- how many they are
pub free-none : (k : List ℕ) → free_of k 0 ≡ 0
unfolding free_of sum
free-none k = refl

pub free-next : (k : List ℕ) (j : ℕ) → free_of k (j + 1) ≡ free_of k j + only (not (keeps k j)) 1
unfolding free_of
free-next k j = sum-next j _

-- a message more that is kept, and one that is not
pub next-kept : (k : List ℕ) (j : ℕ) → keeps k j ≡ true → free_of k (j + 1) ≡ free_of k j
next-kept k j e = free-next k j ∙ ap (λ (b : Bool). free_of k j + only (not b) 1) e ∙ omega arith

pub next-free : (k : List ℕ) (j : ℕ) → keeps k j ≡ false → free_of k (j + 1) ≡ free_of k j + 1
next-free k j e = free-next k j ∙ ap (λ (b : Bool). free_of k j + only (not b) 1) e

-- more messages have no fewer of them
pub free-rises : (k : List ℕ) (j h : ℕ) → j ≤ h → free_of k j ≤ free_of k h
unfolding free_of sum
free-rises k j zero l = let e : j ≡ 0 = omega arith in rw e (omega arith)
free-rises k j (suc h) l = elim (eq-or-lt_of_le l) [
  | inl e ↦ rw e (omega arith)
  | inr g ↦ omega (arith, free-rises k j h (omega arith))
]

-- ---- which they are: m has those of the first j messages
pub record Walked (k : List ℕ) (j : ℕ) (m : List ℕ) : Type 0 where
  pub count : length m ≡ free_of k j
  pub free : Free k j m (length m)

pub walked_none : (k : List ℕ) → Walked k 0 []
walked_none k = record {
  count = sym (free-none k);
  free = record {
    below = below_none _;
    not-kept = below_none _;
    rising = λ s t g l. absurd (omega arith);
    all = below_none _;
  };
}

module _ {k m : List ℕ} {j : ℕ} (W : Walked k j m) where
  -- the next message is kept
  pub walked-kept : keeps k j ≡ true → Walked k (j + 1) m
  walked-kept e = record {
    count = W.count ∙ sym (next-kept k j e);
    free = record {
      below = λ s l. omega (arith, W.free.below s l);
      not-kept = W.free.not-kept;
      rising = W.free.rising;
      all = below_more _ j W.free.all (λ f. not-both e f);
    };
  }

  -- it is not kept, and stands behind the others
  pub walked-free : keeps k j ≡ false → Walked k (j + 1) (m ++ j ∷ [])
  walked-free e = record {
    count = long ∙ ap (◌+ 1) W.count ∙ sym (next-free k j e);
    free = rw long record {
      below = below_more _ n (λ s g. omega (arith, old s g, F.below s g)) (omega (arith, new));
      not-kept = below_more _ n (λ s g. ap (keeps k) (old s g) ∙ F.not-kept s g) (ap (keeps k) new ∙ e);
      rising = λ s t g i. below_more (λ t. (s : ℕ) → s < t → get_or (m ++ j ∷ []) s 0 < get_or (m ++ j ∷ []) t 0) n
          (λ t i s g. omega (arith, old s (omega arith), old t i, F.rising s t g i))
          (λ s g. omega (arith, old s g, new, F.below s g))
          t i s g;
      all = below_more _ j
          (λ i g f.
          let S = F.all i g f in
          record { slot = S.slot; among = omega (arith, S.among); is = old S.slot S.among ∙ S.is })
          (λ f. record { slot = n; among = omega arith; is = new });
    };
  }
    where
      n : ℕ
      n = length m

      F : Free k j m n
      F = W.free

      long : length (m ++ j ∷ []) ≡ length m + 1
      long = length-append m (j ∷ [])

      old : (s : ℕ) → s < n → get_or (m ++ j ∷ []) s 0 ≡ get_or m s 0
      old s g = get_or_append_left m (j ∷ []) 0 s g

      new : get_or (m ++ j ∷ []) n 0 ≡ j
      new = get_or-append_seam m j [] 0
