-- A column set in rows r, r + step, .., row by row, and what was seen in their words before.
use Rattle.std.proofs.Common.{ℕ, ◌+◌, ◌*◌, ◌≤◌, ◌<◌, ◌≡◌, sym, ap, subst, ◌∙◌, Bool, List, ⊎_elim, arith, bit_or, eqb, length, get_or, set, eq-eqb, eqb-true}
use Rattle.basics.specs.Bits.{Has, Joined, bit}
use Rattle.basics.proofs.Bits.{has-none, has-or, or_left, or_right}
use Rattle.basics.proofs.Strides.{Striding, striding-none, striding-more, striding-all, untouched}
use Rattle.basics.proofs.Tests.{below_or}
use Rattle.row_words.proofs.Turns.{one-turn}
use Rattle.row_words.specs.RowWords.{SetBefore, Occupied}

-- the words t in the rows before i have column c set, and are t' then; x has exactly the columns that were set in one of them
pub record Marking (t : List ℕ) (c r step rows i x : ℕ) (t' : List ℕ) : Type 0 where
  pub marks : Striding (λ (x : ℕ). Joined x c) (λ (i : ℕ). i) r step rows i t t'
  pub only : (d : ℕ) → Has x d → SetBefore t d r step rows
  pub all : (k d : ℕ) → r + k * step < i → Has (get_or t (r + k * step) 0) d → Has x d

pub marking-none : (t : List ℕ) (c r step rows : ℕ) → Marking t c r step rows r 0 t
marking-none t c r step rows = record {
  marks = striding-none _ _ (λ x y e. e) r step rows t;
  only = λ d h. absurd (has-none d h);
  all = λ k d l h. absurd (omega arith);
}

module _ {t t' : List ℕ} {c r step rows i x : ℕ} (m : Marking t c r step rows i x t') (some : 1 ≤ step) where
  was : get_or t' i 0 ≡ get_or t i 0
  was = untouched _ _ (λ x y e. e) m.marks some

  pub marking-more : {y next : ℕ} → i < rows → i < length t' → Joined (get_or t' i 0) c y → next ≡ i + step
      → Marking t c r step rows next (bit_or x (get_or t' i 0)) (set t' i y)
  marking-more {y} {next} li fits j en =
      let at = m.marks.now-at in
      record {
        marks = striding-more _ _ (λ x y e. e) m.marks some li (omega arith) fits en j;
        only = λ d h. ⊎_elim
            (m.only d)
            (λ g. record { turn = m.marks.turn; low = omega arith; set = subst (λ (k : ℕ). Has (get_or t k 0) d) at (rw was at g) })
            (has-or x (get_or t' i 0) d h);
        all = λ k d l h. ⊎_elim
            (λ g. or_left x (get_or t' i 0) d (m.all k d g h))
            (λ g.
            let e : r + k * step ≡ i = omega (arith, ap (◌* step) (one-turn r step m.marks.turn k m.marks.now-at g (omega arith))) in
            or_right x (get_or t' i 0) d (rw was (subst (λ (k : ℕ). Has (get_or t k 0) d) e h)))
            (below_or (r + k * step) i);
      }

  pub marking-all : {b : Bool} → rows ≤ i → b ≡ eqb (bit x c) 1 → Occupied t c r step rows t' b
  marking-all {b} h e = record {
    marked = striding-all _ _ (λ x y e. e) m.marks some h;
    before = (
      λ q. m.only c (eqb-true _ _ (sym e ∙ q)),
      λ s. e ∙ eq-eqb _ _ (m.all s.turn c (omega (arith, s.low)) s.set),
    );
  }
