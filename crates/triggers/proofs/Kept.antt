-- A node for which nothing changes keeps its trigger list, word for word.
use Prim.Native.Nat.{ℕ, suc, ◌+◌, ◌*◌, ◌-◌, ◌<◌}
use mathlib.Core.Path.{◌≡◌, refl, sym, ap, ap₂, subst, ◌∙◌}
use mathlib.Core.List.Memᴰ
use mathlib.Core.List.{List, [], ◌∷◌, ◌++◌, append_assoc, map, flatten}
use native.Mathlib.Omega.{arith}
use lib.ListN.{length, get_or, take, drop, length-append, get_or-append}
use lib.Seq.{take_at, drop_at}
use Rattle.std.specs.Prelude.{Ok}
use Rattle.basics.specs.Rising.{Rising, none, next, InOrder}
use Rattle.basics.specs.Runs.{run}
use Rattle.basics.specs.Sums.{sum}
use Rattle.basics.proofs.Rising.{head-before, tail-rises, in-order-one}
use Rattle.basics.proofs.Runs.{length_run, run-around, run_at}
use Rattle.basics.proofs.Sums.{sum_same, sum-times}
use Rattle.basics.proofs.Written.{length-pieces}
use Rattle.rules.specs.Problem.{nodes}
use Rattle.rules.specs.Sends.{Source, reference, message}
use Rattle.rules.proofs.Told.{answers-clear}
use Rattle.problem.specs.File.{words_of}
use Rattle.triggers.specs.Lists.{Entered, entry_words, entry, Before, by-mark, by_row, ListOf, entries, Lists}
use Rattle.triggers.specs.Promise.{Listing}
use Rattle.triggers.specs.Same.{SameTo, SameFor, count_in, list_in}
use Rattle.triggers.proofs.Written.{length-entries}

-- ---- the order of entries by their words alone: by mark, then by row
data Earlier (x y : List ℕ) : Type 0 where
  mark-earlier : get_or x 1 0 < get_or y 1 0 → Earlier x y
  row-earlier : get_or x 1 0 ≡ get_or y 1 0 → get_or x 2 0 < get_or y 2 0 → Earlier x y

not-both-ways : (x y : List ℕ) → Earlier x y → Earlier y x → ⊥
not-both-ways x y (mark-earlier a) (mark-earlier b) = omega arith
not-both-ways x y (mark-earlier a) (row-earlier b c) = omega arith
not-both-ways x y (row-earlier a c) (mark-earlier b) = omega arith
not-both-ways x y (row-earlier a c) (row-earlier b d) = omega arith

-- ---- the entries of a node, each as its words
module _ (p w : List ℕ) (n : ℕ) where
  -- x is one of them
  record EntryOf (x : List ℕ) : Type 0 where
    pub source : Source
    pub entered : Entered p n source
    pub is : entry p w n source ≡ x

  earlier : (s t : Source) → Before p w s t → Earlier (entry p w n s) (entry p w n t)
  unfolding entry
  earlier s t (by-mark a) = mark-earlier a
  earlier s t (by_row a b) = row-earlier a b

  rises : (l : List Source) → Rising (Before p w) l → Rising Earlier (map (entry p w n) l)
  rises [] r = none
  rises (s ∷ l) r =
      next
      (λ y m. let h = Memᴰ.of_map (entry p w n) l m in subst (Earlier (entry p w n s)) h.2 (earlier s h.0 (head-before r h.0 h.1)))
      (rises l (tail-rises r))

  in_words : {l : List Source} → ListOf p w n l → InOrder EntryOf Earlier (map (entry p w n) l)
  in_words {l} a = record {
    only = λ x m. let h = Memᴰ.of_map (entry p w n) l m in record { source = h.0; entered = a.only h.0 h.1; is = h.2 };
    all = λ x e. Memᴰ.cast (sym e.is) (Memᴰ.map (entry p w n) (a.all e.source e.entered));
    rising = rises l a.rising;
  }

  entries-are : (l : List Source) → entries p w n l ≡ flatten (map (entry p w n) l)
  unfolding entries flatten
  entries-are [] = refl
  entries-are (s ∷ l) = ap (entry p w n s ++◌) (entries-are l)

-- ---- two plans
module _ {p w q v : List ℕ} {n : ℕ} where
  same-reference : SameFor p w q v n → entry q v n reference ≡ entry p w n reference
  unfolding entry
  same-reference h = rw h.reference-same

  same-entry : {i j : ℕ} → SameTo p w q v n i j → entry q v n (message j) ≡ entry p w n (message i)
  unfolding entry
  same-entry h = rw (h.identifier-same, h.sends-same, h.mark-same, h.row_same, h.repeat-same)

  -- an entry of the one plan is an entry of the other
  entry_kept : SameFor p w q v n → (x : List ℕ) → EntryOf p w n x → EntryOf q v n x
  entry_kept h x e = go e.source e.entered e.is
    where
      go : (s : Source) → Entered p n s → entry p w n s ≡ x → EntryOf q v n x
      go reference t is = record { source = reference; entered = tt; is = same-reference h ∙ is }
      go (message i) t is = let f = h.none-lost i t in record { source = message f.number; entered = f.entered; is = same-entry f.same ∙ is }

other_way : {p w q v : List ℕ} {n : ℕ} → SameFor p w q v n → SameFor q v p w n
other_way h = record { reference-same = sym h.reference-same; none-lost = h.none-new; none-new = h.none-lost }

module _ {p w q v : List ℕ} {n : ℕ} (same : SameFor p w q v n) where
  -- the theorem: where what concerns a node is the same in two plans, its lists in both have the same words
  pub lists-kept : {l k : List Source} → ListOf p w n l → ListOf q v n k → entries p w n l ≡ entries q v n k
  lists-kept {l} {k} a b =
      let c = in_words q v n b in
      let d : InOrder (EntryOf p w n) Earlier (map (entry q v n) k) = record {
        only = λ x m. entry_kept (other_way same) x (c.only x m);
        all = λ x e. c.all x (entry_kept same x e);
        rising = c.rising;
      } in
      entries-are p w n l ∙ ap flatten (in-order-one not-both-ways (in_words p w n a) d) ∙ sym (entries-are q v n k)

  -- and as many entries
  pub count_kept : {l k : List Source} → ListOf p w n l → ListOf q v n k → length l ≡ length k
  count_kept {l} {k} a b = omega (arith, ap length (lists-kept a b), length-entries p w n l, length-entries q v n k)

-- ---- where the lists stand at the front of a buffer, a node's count and words are found in it
module _ {p w x : List ℕ} (h : Lists p w x) (t : List ℕ) where
  counts : ℕ → List ℕ
  counts n = length (h.list n) ∷ []

  words_for : ℕ → List ℕ
  words_for n = entries p w n (h.list n)

  buffer-is : x ++ t ≡ run nodes counts ++ (run nodes words_for ++ t)
  unfolding counts words_for
  buffer-is = ap (◌++ t) h.words ∙ append_assoc (run nodes counts) (run nodes words_for) t

  counts-long : (n : ℕ) → length (run n counts) ≡ n
  unfolding counts
  counts-long n = omega (arith, length_run counts 1 (λ i. refl) n)

  count-in : (n : ℕ) → n < nodes → count_in (x ++ t) n ≡ length (h.list n)
  unfolding counts
  count-in n l =
      ap (λ (y : List ℕ). get_or y n 0) buffer-is
      ∙ get_or-append (run nodes counts) (run nodes words_for ++ t) 0 n (omega (arith, counts-long nodes))
      ∙ ap (λ (i : ℕ). get_or (run nodes counts) i 0) (let e = counts-long n in omega arith)
      ∙ run_at counts nodes n l 0 (omega arith)

  -- the words before node n's: the counts, and the lists of the nodes before
  before-long : (n : ℕ) → n < nodes → length (run nodes counts ++ run n words_for) ≡ nodes + entry_words * sum n (count_in (x ++ t))
  unfolding words_for
  before-long n l =
      length-append (run nodes counts) (run n words_for)
      ∙ ap₂ ◌+◌ (counts-long nodes)
      (length-pieces words_for n
      ∙ sum_same n (λ i. length (words_for i)) (λ i. entry_words * count_in (x ++ t) i) (λ i k. length-entries p w i (h.list i) ∙ ap (entry_words *◌) (sym (count-in i (omega arith))))
      ∙ sum-times n entry_words (count_in (x ++ t)))

  list-in : (n : ℕ) → n < nodes → list_in (x ++ t) n ≡ entries p w n (h.list n)
  unfolding list_in words_for
  list-in n l =
      let rest : List ℕ = run (nodes - suc n) (λ k. words_for (suc n + k)) ++ t in
      let whole : x ++ t ≡ (run nodes counts ++ run n words_for) ++ (words_for n ++ rest) = buffer-is ∙ rw (run-around words_for nodes n l) (simp append_assoc) in
      let cut : drop (nodes + entry_words * sum n (count_in (x ++ t))) (x ++ t) ≡ words_for n ++ rest =
      ap (drop (nodes + entry_words * sum n (count_in (x ++ t)))) whole ∙ drop_at (run nodes counts ++ run n words_for) (words_for n ++ rest) _ (before-long n l) in
      ap (take (entry_words * count_in (x ++ t) n)) cut
      ∙ take_at (words_for n) rest _ (length-entries p w n (h.list n) ∙ ap (entry_words *◌) (sym (count-in n l)))

-- ---- two calls
-- behind a call that answered with lists they stand at the front of the buffer
record Front (p w e : List ℕ) : Type 0 where
  pub lists : List ℕ
  pub rest : List ℕ
  pub lists-are : Lists p w lists
  pub is : lists ++ rest ≡ e

front : (f w d : List ℕ) {e : List ℕ} {r : ℕ} → Listing f w d e (Ok r) → Front (words_of f) w e
front f w d h =
    let clear = (answers-clear h.answers).0 in
    record { lists = h.lists; rest = drop (length h.lists) d; lists-are = h.lists-are clear; is = sym (h.answers.buffer-is ∙ rw clear) }

fronts-kept : {p w q v e c : List ℕ} {n : ℕ} → SameFor p w q v n → n < nodes → Front p w e → Front q v c → (count_in e n ≡ count_in c n) × (list_in e n ≡ list_in c n)
fronts-kept {n = n} same l a b =
    let x = a.lists-are in
    let y = b.lists-are in
    let count : count_in (a.lists ++ a.rest) n ≡ count_in (b.lists ++ b.rest) n =
    count-in x a.rest n l ∙ count_kept same (x.each n l) (y.each n l) ∙ sym (count-in y b.rest n l) in
    let words : list_in (a.lists ++ a.rest) n ≡ list_in (b.lists ++ b.rest) n =
    list-in x a.rest n l ∙ lists-kept same (x.each n l) (y.each n l) ∙ sym (list-in y b.rest n l) in
    rw (← a.is, ← b.is) (count, words)

-- the theorem: where both calls answer with lists, a node for which nothing changed finds the same count and the same words in both buffers
pub loaded-kept : (f w d g v b : List ℕ) {e c : List ℕ} {r s n : ℕ} → Listing f w d e (Ok r) → Listing g v b c (Ok s)
    → SameFor (words_of f) w (words_of g) v n → n < nodes → (count_in e n ≡ count_in c n) × (list_in e n ≡ list_in c n)
loaded-kept f w d g v b h k same l = fronts-kept same l (front f w d h) (front g v b k)
