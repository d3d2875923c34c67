-- Numbers that are stored and dropped: 0, 1, 2 and so on, and what is left without one message.
use Rattle.std.proofs.Common.{◌≡◌, ℕ, ◌+◌, ◌<◌, List, [], ◌∷◌, ◌++◌, length, get_or, sym, ◌∙◌, arith, below_none, below_more, length-append}
use Rattle.std.proofs.Math.Seq.{get_or-append_seam}
use Rattle.std.proofs.lemmas.List.{get_or_append_left}
use Rattle.rest.specs.Free.{Slot}
use Rattle.rest.specs.Part.{Numbers}
use Rattle.crowd.specs.Crowd.{Among}
use Rattle.crowd.specs.Walk.{Counts, Without}

-- ---- a number more behind those of k
module _ (k : List ℕ) (x : ℕ) where
  longer : length (k ++ x ∷ []) ≡ length k + 1
  longer = length-append k (x ∷ [])

  old : (s : ℕ) → s < length k → get_or (k ++ x ∷ []) s 0 ≡ get_or k s 0
  old s l = get_or_append_left k (x ∷ []) 0 s l

  new : get_or (k ++ x ∷ []) (length k) 0 ≡ x
  new = get_or-append_seam k x [] 0

  old-slot : {y : ℕ} → Slot k (length k) y → Slot (k ++ x ∷ []) (length (k ++ x ∷ [])) y
  old-slot S = record { slot = S.slot; among = omega (arith, longer, S.among); is = old S.slot S.among ∙ S.is }

  new-slot : Slot (k ++ x ∷ []) (length (k ++ x ∷ [])) x
  new-slot = record { slot = length k; among = omega (arith, longer); is = new }

pub counts-none : {m : List ℕ} → Counts m 0
counts-none = record { each = below_none _ }

pub counts-more : {m : List ℕ} {s : ℕ} → length m ≡ s → Counts m s → (length (m ++ s ∷ []) ≡ s + 1) × Counts (m ++ s ∷ []) (s + 1)
counts-more {m} {s} e C = (longer m s ∙ omega (arith, e), record { each = below_more _ s (λ t l. old m s t (omega arith) ∙ C.each t l) (rw e at (new m s)) })

-- ---- the words of m but j, one by one
pub without-none : {m : List ℕ} {j : ℕ} → Without m 0 j []
without-none = record {
  few = omega arith;
  among = record { each = below_none _ };
  lacks = below_none _;
  all = below_none _;
  rising = λ R s t g l. absurd (omega arith);
}

module _ {m k : List ℕ} {n j : ℕ} (W : Without m n j k) where
  -- the next is j
  pub without-same : get_or m n 0 ≡ j → Without m (n + 1) j k
  without-same e = record {
    few = omega (arith, W.few);
    among = record { each = λ s l. let S = W.among.each s l in record { slot = S.slot; among = omega (arith, S.among); is = S.is } };
    lacks = W.lacks;
    all = below_more _ n W.all (λ d. absurd (d e));
    rising = λ R. W.rising (λ s t g l. R s t g (omega arith));
  }

  -- it is another
  pub without_more : (get_or m n 0 ≡ j → ⊥) → Without m (n + 1) j (k ++ get_or m n 0 ∷ [])
  without_more d =
      let x = get_or m n 0 in
      let long = longer k x in
      let earlier = old k x in
      let last = new k x in
      record {
        few = omega (arith, long, W.few);
        among = record {
          each = rw long (below_more _ (length k)
              (λ s l. let S = W.among.each s l in record { slot = S.slot; among = omega (arith, S.among); is = S.is ∙ sym (earlier s l) })
              (record { slot = n; among = omega arith; is = sym last }));
        };
        lacks = rw long (below_more _ (length k) (λ s l e. W.lacks s l (sym (earlier s l) ∙ e)) (λ e. d (sym last ∙ e)));
        all = below_more _ n (λ s l f. old-slot k x (W.all s l f)) (λ f. new-slot k x);
        rising = λ R. rw long (λ s t g l. below_more (λ t. (s : ℕ) → s < t → get_or (k ++ x ∷ []) s 0 < get_or (k ++ x ∷ []) t 0) (length k)
            (λ t l s g. omega (arith, earlier s (omega arith), earlier t l, W.rising (λ s t g l. R s t g (omega arith)) s t g l))
            (λ s g. let S = W.among.each s g in omega (arith, earlier s g, last, S.is, R S.slot n S.among (omega arith)))
            t l s g);
      }

-- ---- what is left of the messages of p in m without j
module _ {p m k : List ℕ} {j : ℕ} (N : Numbers p m (length m)) (W : Without m (length m) j k) where
  pub without-numbers : Numbers p k (length k)
  without-numbers = record {
    below = λ s l. let S = W.among.each s l in omega (arith, S.is, N.below S.slot S.among);
    rising = W.rising N.rising;
  }

  pub among-whole : {u : List ℕ} {h : ℕ} → Among u h k (length k) → Among u h m (length m)
  among-whole A = record {
    each = λ i g.
        let at = A.each i g in
        let there = W.among.each at.slot at.among in
        record { slot = there.slot; among = there.among; is = there.is ∙ at.is };
  }

  pub among-left : {u : List ℕ} {h : ℕ} → Among u h m (length m) → (Slot u h j → ⊥) → Among u h k (length k)
  among-left A not = record {
    each = λ i g.
        let at = A.each i g in
        let there = W.all at.slot at.among (λ e. not record { slot = i; among = g; is = sym at.is ∙ e }) in
        record { slot = there.slot; among = there.among; is = there.is ∙ at.is };
  }
