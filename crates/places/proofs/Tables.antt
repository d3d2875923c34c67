-- Tables, changed in place: the words of one message row by row, and message by message.
use Prim.Native.Nat.{ℕ, ◌+◌, ◌<◌, ◌≤◌}
use mathlib.Core.Path.{◌≡◌, refl, sym, ap, subst, ◌∙◌}
use mathlib.Core.List.{List}
use mathlib.Core.Logic.{◌⊎◌, inl, inr, ⊎_elim}
use native.Mathlib.Omega.{arith}
use borrow.Author.Count.{below_more}
use lib.ListN.{length, get_or, set}
use lib.Seq.{get_or-set_same, get_or-set_other}
use Rattle.basics.proofs.Tests.{below_or}
use Rattle.rules.specs.Problem.{most_rows, messages, repeat}
use Rattle.rules.proofs.Bounds.{member, repeat-most}
use Rattle.places.specs.Places.{table_at, Few}

-- ---- one message: Q holds of each of its first r words in e and in a, and all other words are the same
pub record Row (Q : ℕ → ℕ → ℕ → Type 0) (j r : ℕ) (e a : List ℕ) : Type 0 where
  pub here : (i : ℕ) → i < r → Q i (get_or e (table_at j i) 0) (get_or a (table_at j i) 0)
  pub others : (n : ℕ) → (n < table_at j 0) ⊎ (table_at j r ≤ n) → get_or a n 0 ≡ get_or e n 0

module _ (Q : ℕ → ℕ → ℕ → Type 0) (j : ℕ) where
  pub row-start : (e : List ℕ) → Row Q j 0 e e
  row-start e = record { here = λ i l. absurd (omega arith); others = λ n l. refl }

  -- one word more
  pub row_more : (r x : ℕ) (e a : List ℕ) {at : ℕ} → at ≡ table_at j r → at < length a → Q r (get_or a at 0) x → Row Q j r e a → Row Q j (r + 1) e (set a at x)
  row_more r x e a {at} q room h M =
      let old : (n : ℕ) → (n ≡ at → ⊥) → get_or a n 0 ≡ get_or (set a at x) n 0 = λ n d. sym (get_or-set_other a at n x 0 d) in
      let same : get_or a at 0 ≡ get_or e (table_at j r) 0 = M.others at (inr (omega arith)) ∙ ap (λ (k : ℕ). get_or e k 0) q in
      let new : x ≡ get_or (set a at x) (table_at j r) 0 = sym (get_or-set_same a at x 0 room) ∙ ap (λ (k : ℕ). get_or (set a at x) k 0) q in
      record {
        here = below_more _ r
            (λ i l. subst (λ (y : ℕ). Q i (get_or e (table_at j i) 0) y) (old _ (λ d. omega arith)) (M.here i l))
            (subst (λ (y : ℕ). Q r (get_or e (table_at j r) 0) y) new (subst (λ (y : ℕ). Q r y x) same h));
        others = λ n l. ⊎_elim
            (λ g. sym (old n (λ d. omega arith)) ∙ M.others n (inl g))
            (λ g. sym (old n (λ d. omega arith)) ∙ M.others n (inr (omega arith)))
            l;
      }

  -- words that stay
  pub row-stay : (r t : ℕ) {e a : List ℕ} → r ≤ t → ((i x : ℕ) → r ≤ i → i < t → Q i x x) → Row Q j r e a → Row Q j t e a
  row-stay r t {e} {a} h q M = record {
    here = λ i l. ⊎_elim
        (λ g. M.here i g)
        (λ g. subst (λ (y : ℕ). Q i (get_or e (table_at j i) 0) y) (sym (M.others (table_at j i) (inr (omega arith)))) (q i _ g l))
        (below_or i r);
    others = λ n l. ⊎_elim (λ g. M.others n (inl g)) (λ g. M.others n (inr (omega arith))) l;
  }

-- ---- all messages: Q holds of each word of e and of a, as many as the messages before j have, and from there on a is e
pub record Made (p : List ℕ) (Q : ℕ → ℕ → ℕ → ℕ → Type 0) (j : ℕ) (e a : List ℕ) : Type 0 where
  pub earlier : (k : ℕ) → k < j → (i : ℕ) → i < repeat p k → Q k i (get_or e (table_at k i) 0) (get_or a (table_at k i) 0)
  pub rest : (n : ℕ) → table_at j 0 ≤ n → get_or a n 0 ≡ get_or e n 0

module _ (p : List ℕ) (Q : ℕ → ℕ → ℕ → ℕ → Type 0) where
  -- one message more
  pub made_more : (j r : ℕ) {e a b : List ℕ} → Few p → j < messages p → repeat p j ≤ r → r ≤ most_rows → Row (Q j) j r a b → Made p Q j e a → Made p Q (j + 1) e b
  made_more j r {e} {a} {b} F lj h m R M = record {
    earlier = below_more _ j
        (λ k l i g. subst (λ (y : ℕ). Q k i (get_or e (table_at k i) 0) y)
        (sym (R.others (table_at k i) (inl (let w = repeat-most (member {j = k} F.formed (omega arith)) in omega arith)))) (M.earlier k l i g))
        (λ i g. subst (λ (y : ℕ). Q j i y (get_or b (table_at j i) 0)) (M.rest (table_at j i) (omega arith)) (R.here i (omega arith)));
    rest = λ n l. R.others n (inr (omega arith)) ∙ M.rest n (omega arith);
  }

  -- a message of which Q says nothing
  pub made-skip : (j : ℕ) {e a : List ℕ} → ((i x y : ℕ) → Q j i x y) → Made p Q j e a → Made p Q (j + 1) e a
  made-skip j q M = record { earlier = below_more _ j M.earlier (λ i g. q i _ _); rest = λ n l. M.rest n (omega arith) }
