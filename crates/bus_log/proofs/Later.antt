-- Every matrix cycle is the one before, a matrix cycle later.
use Rattle.std.proofs.Common.{ℕ, zero, suc, ◌+◌, ◌*◌, ◌%◌, ◌<◌, ◌≡◌, refl, sym, ap, ◌∙◌, List, [], ◌∷◌, ◌++◌, add_comm, arith, length, get_or, drop, length-append, get_or-drop}
use native.Mathlib.Nat.{add-mod_right}
use lib.ListN.{get_or-append}
use lib.Seq.{drop-append_seam}
use Rattle.basics.specs.Runs.{run}
use Rattle.basics.proofs.Runs.{run-split}
use Rattle.rules.specs.Problem.{rows, cycle, matrix, ref_id, columns, start}
use Rattle.cells.specs.Table.{number_in}
use Rattle.bus_log.specs.Rows.{cell_words, cell_of, words_of_row}
use Rattle.bus_log.proofs.Differing.{Tells}

-- m has the pairs of l, so much later
pub data Later (later : ℕ) : List ℕ → List ℕ → Type 0 where
  none : Later later [] []
  more : (t u i : ℕ) {l m : List ℕ} → u ≡ t + later → Later later l m → Later later (t ∷ i ∷ l) (u ∷ i ∷ m)

module _ {later : ℕ} where
  later-append : {l m : List ℕ} (a b : List ℕ) → Later later l m → Later later a b → Later later (l ++ a) (m ++ b)
  later-append a b none h = h
  later-append a b (more t u i e g) h = more t u i e (later-append a b g h)

  later-run : (g h : ℕ → List ℕ) → ((i : ℕ) → Later later (g i) (h i)) → (n : ℕ) → Later later (run n g) (run n h)
  unfolding run
  later-run g h each zero = none
  later-run g h each (suc n) = later-append (g n) (h n) (later-run g h each n) (each n)

  later-length : {l m : List ℕ} → Later later l m → length m ≡ length l
  later-length none = refl
  later-length (more t u i e g) = ap (λ (k : ℕ). suc (suc k)) (later-length g)

  -- pair by pair
  later-time : {l m : List ℕ} → Later later l m → (k : ℕ) → 2 * k + 1 < length l → get_or m (2 * k) 0 ≡ get_or l (2 * k) 0 + later
  later-time none k h = absurd (omega arith)
  later-time (more t u i e g) zero h = e
  later-time (more t u i e g) (suc k) h = let next : 2 * suc k ≡ suc (suc (2 * k)) = omega arith in rw next (later-time g k (omega arith))

  later-identifier : {l m : List ℕ} → Later later l m → (k : ℕ) → 2 * k + 1 < length l → get_or m (2 * k + 1) 0 ≡ get_or l (2 * k + 1) 0
  later-identifier none k h = absurd (omega arith)
  later-identifier (more t u i e g) zero h = refl
  later-identifier (more t u i e g) (suc k) h = let next : 2 * suc k + 1 ≡ suc (suc (2 * k + 1)) = omega arith in rw next (later-identifier g k (omega arith))

module _ (p t : List ℕ) where
  cell-later : (number time : ℕ) → Later (matrix p) (cell_words p number time) (cell_words p number (time + matrix p))
  cell-later zero time = none
  cell-later (suc j) time = more _ _ _ refl none

  row-later : (i : ℕ) → Later (matrix p) (words_of_row p t i) (words_of_row p t (rows p + i))
  unfolding words_of_row
  row-later i =
      more (i * cycle p) ((rows p + i) * cycle p) (ref_id p) (omega arith) (later-run (cell_of p t i) (cell_of p t (rows p + i)) (λ c.
      let time : (rows p + i) * cycle p + start p c ≡ i * cycle p + start p c + matrix p = omega arith in
      let same : (rows p + i) % rows p ≡ i % rows p = ap (◌% rows p) (add_comm (rows p) i) ∙ add-mod_right i (rows p) in
      rw (time, same) (cell-later (number_in t (i % rows p) c) (i * cycle p + start p c))) (columns p))

  -- the theorem, of R rows and more: pair by pair they come again
  module _ (more_rows : ℕ) where
    abbrev x : List ℕ
    x = run (rows p + more_rows) (words_of_row p t)

    abbrev n : ℕ
    n = length (run (rows p) (words_of_row p t))

    pub comes-again : (k : ℕ) → n + 2 * k + 1 < length x → Tells x x n (matrix p) (2 * k)
    comes-again k l =
        let g : ℕ → List ℕ = words_of_row p t in
        let later = later-run g (λ i. g (rows p + i)) row-later more_rows in
        let parts : x ≡ run (rows p) g ++ run more_rows (λ i. g (rows p + i)) = run-split g (rows p) more_rows in
        let front : x ≡ run more_rows g ++ run (rows p) (λ i. g (more_rows + i)) = ap (λ (q : ℕ). run q g) (add_comm (rows p) more_rows) ∙ run-split g more_rows (rows p) in
        let long : length x ≡ n + length (run more_rows g) = ap length parts ∙ length-append (run (rows p) g) _ ∙ ap (n +◌) (later-length later) in
        let behind : (q : ℕ) → get_or x (n + q) 0 ≡ get_or (run more_rows (λ i. g (rows p + i))) q 0 = λ q.
        sym (get_or-drop n x q 0) ∙ ap (λ (l : List ℕ). get_or l q 0) (ap (drop n) parts ∙ drop-append_seam (run (rows p) g) _) in
        let ahead : (q : ℕ) → q < length (run more_rows g) → get_or x q 0 ≡ get_or (run more_rows g) q 0 = λ q b.
        ap (λ (l : List ℕ). get_or l q 0) front ∙ get_or-append (run more_rows g) _ 0 q b in
        record {
          time = behind (2 * k) ∙ later-time later k (omega arith) ∙ ap (◌+ matrix p) (sym (ahead (2 * k) (omega arith)));
          identifier = ap (λ (q : ℕ). get_or x q 0) (omega arith) ∙ behind (2 * k + 1) ∙ later-identifier later k (omega arith) ∙ sym (ahead (2 * k + 1) (omega arith));
        }
