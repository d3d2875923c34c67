-- The words that callers give and are given: they go there and back in each version, their count tells the version, and the writer's chain finds nothing exactly
-- where they are those of a well-formed problem.
use Prim.Native.Nat.{ℕ, ◌+◌, ◌*◌, ◌-◌, ◌<◌, ◌≤◌}
use mathlib.Core.Path.{◌≡◌, refl, sym, ap, ◌∙◌}
use mathlib.Core.Bool.{Bool, cond}
use mathlib.Core.List.{List, ◌++◌}
use native.Mathlib.Omega.{arith}
use borrow.Author.Tests.{le-ltb, eq-eqb, ne_eqb, eqb-true}
use borrow.Rule.Slice.PartMut.{put_mid}
use lib.Dec.{ltb}
use lib.ListN.{length, take, drop, length-append, length-drop}
use lib.Seq.{length-take-le}
use Rattle.basics.specs.Runs.{run, piece, front, Turned}
use Rattle.basics.proofs.Runs.{length_run, length_front, length-piece, listed-take, filled, tail-part, turned-back}
use Rattle.rules.specs.declared.Refusal.{Refusal}
use Rattle.rules.specs.declared.Refusal.TheVariants.{Length}
use Rattle.rules.specs.Problem.{header_words, columns, messages, word_count, WellFormed, Header}
use Rattle.rules.specs.Rules.{header_fault, words_fault}
use Rattle.rules.specs.Refusal.{guard, Fault}
use Rattle.rules.proofs.Faults.{clear_both, clear-test}
use Rattle.rules.proofs.Formed.{header-kept, words-formed, formed-words}
use Rattle.problem.specs.declared.layout.Layout.{Layout}
use Rattle.problem.specs.declared.layout.Layout.TheVariants.{One, Two}
use Rattle.problem.specs.Callers.{column_words, said_for, recast, narrow, widen, said_count, layout_by, problem_of}
use Rattle.problem.specs.File.{Held}
use Rattle.problem.specs.Wrong.{count_fault, problem_fault}
use Rattle.problem.specs.Parts.{Said}
use Rattle.problem.proofs.Layouts.{column-words-are, said-back, said-forth}
use Rattle.problem.proofs.File.{part1, part2, rest, three-parts}
use Rattle.problem.proofs.RoundTrip.{column_fits}
use Rattle.std.specs.Prelude.{Err, Ok}

-- ---- words with a for each column, made words with b
module _ (a b : ℕ) (w : List ℕ) where
  pub recast-columns : columns (recast a b w) ≡ columns w
  unfolding recast
  recast-columns = refl

  pub recast-messages : messages (recast a b w) ≡ messages w
  unfolding recast
  recast-messages = refl

  recast-header : header_fault (recast a b w) ≡ header_fault w
  unfolding recast header_fault
  recast-header = refl

  module _ (whole : length w ≡ said_for a (columns w) (messages w)) where
    pub recast-length : length (recast a b w) ≡ said_for b (columns w) (messages w)
    unfolding recast
    recast-length =
        let g : ℕ → List ℕ = λ c. front b (piece a c (drop 7 w)) in
        length-append (front 7 w ++ run (columns w) g) (drop (7 + a * columns w) w)
        ∙ omega (arith, length-append (front 7 w) (run (columns w) g), length_run g b (λ c. length_front b (piece a c (drop 7 w))) (columns w), length-drop (7 + a * columns w) w)

    recast-back : ((c : ℕ) → c < columns w → front a (front b (piece a c (drop 7 w))) ≡ piece a c (drop 7 w)) → recast b a (recast a b w) ≡ w
    unfolding recast
    recast-back h =
        turned-back w (front 7 w) 7 a b (columns w) (front b) (front a) refl (length_front b) (listed-take 7 w (omega arith)) h (recast a b w) refl

-- they are written in three parts, of which the first and the last are copied
module _
    (a b : ℕ) (w d hs cs ms : List ℕ) (k m s t : ℕ) (e : k ≡ columns w) (whole : length w ≡ said_for a k m) (room : said_for b k m ≤ length d)
    (from : s ≡ header_words + a * k) (at : t ≡ header_words + b * k)
  where
    pub recast-parts : hs ≡ take header_words w ++ drop (length (take header_words w)) (take header_words d)
        → Turned (front b) a b (rest header_words w) (rest header_words (part1 header_words d hs)) k cs
        → ms ≡ rest s w ++ drop (length (rest s w)) (rest t (part2 header_words d hs cs))
        → put_mid t (length (part2 header_words d hs cs) - t) (part2 header_words d hs cs) ms ≡ recast a b w ++ drop (said_for b k m) d
    unfolding recast
    recast-parts h1 h2 h3 =
        let g : ℕ → List ℕ = λ j. front b (piece a j (rest header_words w)) in
        let head = length-take-le header_words w (omega arith) in
        let hs-is : hs ≡ front header_words w =
        filled (take header_words d) (take header_words w) hs (length (take header_words w)) h1 (length-take-le header_words d (omega arith) ∙ sym head)
        ∙ sym (listed-take header_words w (omega arith)) in
        let last : length (rest s w) ≡ 7 * m = rw (tail-part s w, length-drop) (omega arith) in
        rw (
          three-parts (front header_words w) (run k g) (rest s w) d hs cs ms header_words (b * k) (7 * m) t at
              refl (length_run g b (λ j. length_front b (piece a j (rest header_words w))) k) hs-is h2.is (rw last at h3),
          tail-part header_words w,
          tail-part s w,
          from,
          e,
        )

-- ---- there and back
-- a problem, as callers see it and back
pub widen-narrow : (L : Layout) (p : List ℕ) → WellFormed p → Held L p → widen L (narrow L p) ≡ p
widen-narrow L p f held = recast-back 3 (column_words L) p f.words (λ c l. said-forth L (piece 3 c (drop 7 p)) (column_fits L p f held c l))

-- a caller's words, as a problem and back
pub narrow-widen : (L : Layout) (w : List ℕ) → length w ≡ said_count L w → narrow L (widen L w) ≡ w
narrow-widen L w e =
    recast-back (column_words L) 3 w e
    (λ c l. said-back L (piece (column_words L) c (drop 7 w)) (length-piece (column_words L) c 7 w (columns w) (omega (arith, e)) l))

-- ---- the count tells the version
pub told : (L : Layout) (p : List ℕ) → WellFormed p → layout_by (narrow L p) ≡ L
told One p f =
    let w : List ℕ = narrow One p in
    let l : length w ≡ said_count One w = recast-length 3 2 p f.words ∙ rw (recast-columns 3 2 p, recast-messages 3 2 p) in
    ap (λ (b : Bool). cond b One Two) (eq-eqb (length w) (said_count One w) l)
told Two p f =
    let w : List ℕ = narrow Two p in
    let n : length w ≡ said_count One w → ⊥ =
    λ e. omega (arith, e, recast-length 3 3 p f.words, recast-columns 3 3 p, recast-messages 3 3 p, f.header.columns-least) in
    ap (λ (b : Bool). cond b One Two) (ne_eqb (length w) (said_count One w) n)

-- ---- the writer's chain, by cases
module _ (w : List ℕ) (long : 7 ≤ length w) (right : header_fault w ≡ Ok tt) where
  pub count-clear : length w ≡ said_count (layout_by w) w → Ok tt ≡ count_fault w
  unfolding count_fault
  count-clear e = rw (le-ltb (length w) 7 long, right, eq-eqb (length w) (said_count (layout_by w) w) e)

  pub header-few : {k m : ℕ} → k ≡ columns w → m ≡ messages w → (k ≤ 32) × (m ≤ 64)
  header-few a b = let h = (header-kept w).0 right in (omega arith, omega arith)

-- what a count with no fault says of the words
pub record Given (w : List ℕ) : Type 0 where
  pub long : header_words ≤ length w
  pub header : Header w
  pub words : length w ≡ said_count (layout_by w) w

pub given-right : (w : List ℕ) → count_fault w ≡ Ok tt → Given w
unfolding count_fault
given-right w e =
    let a = clear_both (guard (ltb (length w) 7) Length) _ e in
    let b = clear_both (header_fault w) _ a.1 in
    let n : length w ≡ said_count (layout_by w) w = eqb-true _ _ (clear-test _ _ b.1) in
    record { long = omega arith; header = (header-kept w).0 b.0; words = n }

-- so many are said of each column
pub given-said : {w : List ℕ} {t k m : ℕ} → Given w → t ≡ column_words (layout_by w) → k ≡ columns w → m ≡ messages w → Said w t k m
given-said {w} g et ek em =
    let are = column-words-are (layout_by w) in
    record {
      columns-are = ek;
      words = g.words ∙ rw (et, ek, em);
      least = omega (arith, et, are.0);
      most = omega (arith, et, are.1);
      columns-most = omega (arith, ek, g.header.columns-most);
      messages-most = omega (arith, em, g.header.messages-most);
    }

module _ (w : List ℕ) where
  pub problem-count : {q : Refusal} → count_fault w ≡ Err q → problem_fault w ≡ Err q
  unfolding problem_fault
  problem-count e = rw e

  pub problem-rest : (l : List ℕ) (x : Fault) → count_fault w ≡ Ok tt → l ≡ problem_of w → x ≡ words_fault l → problem_fault w ≡ x
  unfolding problem_fault
  problem-rest l x e p q = rw (e, ← p, ← q)

-- the problem that a caller's words are has the words that it counts
pub given-count : (w : List ℕ) → Given w → length (problem_of w) ≡ word_count (problem_of w)
given-count w g =
    let n : ℕ = column_words (layout_by w) in
    recast-length n 3 w g.words ∙ rw (recast-columns n 3 w, recast-messages n 3 w)

pub given-header : (w : List ℕ) → Given w → Header (problem_of w)
given-header w g = (header-kept (problem_of w)).0 (recast-header (column_words (layout_by w)) 3 w ∙ (header-kept w).1 g.header)

-- What a caller gives without a fault is a well-formed problem as callers see it
pub given-formed : (w : List ℕ) → problem_fault w ≡ Ok tt → WellFormed (problem_of w) × (narrow (layout_by w) (problem_of w) ≡ w)
unfolding problem_fault
given-formed w e =
    let a = clear_both (count_fault w) (words_fault (problem_of w)) e in
    let g = given-right w a.0 in
    (words-formed (problem_of w) (given-header w g) (given-count w g) a.1, narrow-widen (layout_by w) w g.words)

-- And a well-formed problem as callers see it has no fault, and is that problem
pub formed-given : (L : Layout) (p : List ℕ) → WellFormed p → Held L p → (problem_fault (narrow L p) ≡ Ok tt) × (problem_of (narrow L p) ≡ p)
formed-given L p f held =
    let n : ℕ = column_words L in
    let w : List ℕ = narrow L p in
    let l : length w ≡ said_for n (columns p) (messages p) = recast-length 3 n p f.words in
    let is : problem_of w ≡ p = ap (λ (N : Layout). widen N w) (told L p f) ∙ widen-narrow L p f held in
    let counted : length w ≡ said_count (layout_by w) w = l ∙ rw (told L p f, recast-columns 3 n p, recast-messages 3 n p) in
    let count : (Ok tt) ≡ count_fault w = count-clear w (omega (arith, l)) (recast-header 3 n p ∙ (header-kept p).1 f.header) counted in
    (problem-rest w p (Ok tt) (sym count) (sym is) (sym (formed-words p f)), is)
