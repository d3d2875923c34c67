-- Row by row through the table of cells: the words are those of the sends that are due.
use Rattle.std.proofs.Common.{ℕ, zero, suc, ◌+◌, ◌*◌, ◌%◌, ◌<◌, ◌≡◌, refl, sym, ap, ap₂, ◌∙◌, List, [], ◌∷◌, ◌++◌, ⊎_elim, mod-lt, lt_of_mul-lt-mul_right, arith}
use mathlib.Core.List.Memᴰ
use mathlib.Core.List.{Memᴰ}
use Rattle.basics.specs.Runs.{run}
use Rattle.basics.proofs.Rising.{Climbs, climbs-none, climbs-one, climbs-wide, climbs-append, Steps, climbs-run}
use Rattle.basics.proofs.Runs.{run-same, in-run, of-run}
use Rattle.rules.specs.Cells.{Here}
use Rattle.rules.specs.Problem.{rows, cycle, ref_len, ref_id, columns, messages, matrix, start, earliest, repeat, column, row}
use Rattle.rules.specs.Sends.{Source, reference, message, OnBus, begins, send_at}
use Rattle.rules.proofs.Bounds.{rows-least}
use Rattle.rules.proofs.Columns.{last_end}
use Rattle.rules.proofs.Slots.{send-is}
use Rattle.proposal.specs.Accepted.{Accepted}
use Rattle.cells.specs.Table.{number_in, Table}
use Rattle.cells.proofs.Starts.{at, one-holder}
use Rattle.cells.proofs.Owners.{Holder, free, by, holder}
use Rattle.bus_log.specs.Span.{Occurrence, start_of, DueList, pairs, IsDue}
use Rattle.bus_log.specs.Rows.{cell_words, words_of_row}
use Rattle.bus_log.proofs.Turns.{occurrence, turn_at, turn_is, again, within}

-- the send in a cell of row i that has this number, none where it is 0
abbrev send_in : List ℕ → List ℕ → ℕ → ℕ → List Occurrence
send_in p w i zero = []
send_in p w i (suc j) = occurrence (message j) (turn_at p w j i) ∷ []

-- those of row i: the reference message, then those of its cells
abbrev cell_sends : List ℕ → List ℕ → List ℕ → ℕ → ℕ → List Occurrence
cell_sends p w t i c = send_in p w i (number_in t (i % rows p) c)

abbrev row_sends : List ℕ → List ℕ → List ℕ → ℕ → List Occurrence
row_sends p w t i = (occurrence reference i ∷ []) ++ run (columns p) (cell_sends p w t i)

-- ---- the words of sends one behind the other
module _ (p w : List ℕ) where
  pairs-append : (l m : List Occurrence) → pairs p w (l ++ m) ≡ pairs p w l ++ pairs p w m
  unfolding pairs
  pairs-append [] m = refl
  pairs-append (o ∷ l) m = rw (pairs-append l m)

  pairs-run : (n : ℕ) (g : ℕ → List Occurrence) → pairs p w (run n g) ≡ run n (λ i. pairs p w (g i))
  unfolding pairs run
  pairs-run zero g = refl
  pairs-run (suc n) g = pairs-append (run n g) (g n) ∙ rw (pairs-run n g)

module _ {p w : List ℕ} (a : Accepted p w) where
  -- ---- one cell
  -- its send starts there
  cell-starts : (j i c : ℕ) → j < messages p → Here p w j (i % rows p) c → send_at p w j (turn_at p w j i) ≡ i * cycle p + start p c
  cell-starts j i c l h = rw (send-is p w j (at a j l) (turn_at p w j i), again a j l i c h, h.same-column)

  cell-words : (i c : ℕ) {x : ℕ} → Holder p w (i % rows p) c x → pairs p w (send_in p w i x) ≡ cell_words p x (i * cycle p + start p c)
  unfolding pairs
  cell-words i c (free h) = refl
  cell-words i c (by j l h) = rw (cell-starts j i c l h)

  cell-climbs : (i c : ℕ) {x : ℕ} → c < columns p → Holder p w (i % rows p) c x
      → Climbs (start_of p w) (i * cycle p + earliest p c) (i * cycle p + earliest p (suc c)) (send_in p w i x)
  unfolding earliest
  cell-climbs i c lc (free h) = climbs-none _
  cell-climbs i c lc (by j l h) =
      let e = cell-starts j i c l h in
      let k = a.formed.column c lc in
      climbs-one _ (omega (arith, e, k.ordered)) (omega (arith, e, k.width-least))

  cell-on-bus : (i c : ℕ) {x : ℕ} (o : Occurrence) → Holder p w (i % rows p) c x → Memᴰ o (send_in p w i x) → OnBus p o.source
  cell-on-bus i c o (free h) m = absurd (Memᴰ.not-nil m)
  cell-on-bus i c o (by j l h) m = rw (Memᴰ.eq_of_singleton m) l

  -- a turn that falls on row i is in the cell of its column
  cell-has : (i j n : ℕ) {x : ℕ} → j < messages p → row w j + n * repeat p j ≡ i → Holder p w (i % rows p) (column w j) x
      → Memᴰ (occurrence (message j) n) (send_in p w i x)
  cell-has i j n l e (free h) = absurd (h j l (within a j l i n e))
  cell-has i j n l e (by k lk h) =
      let same : j ≡ k = one-holder a j k (i % rows p) (column w j) l lk (within a j l i n e) h in
      Memᴰ.head (ap₂ occurrence (ap message same) (sym (turn_is a j l i n e) ∙ ap (λ (m : ℕ). turn_at p w m i) same))

  -- ---- one row
  module _ {t : List ℕ} (b : Table p w (messages p) t) where
    held : (i c : ℕ) → c < columns p → Holder p w (i % rows p) c (number_in t (i % rows p) c)
    held i c lc = holder a b (i % rows p) c (mod-lt i (rows-least a.formed)) lc

    row_words : (i : ℕ) → pairs p w (row_sends p w t i) ≡ words_of_row p t i
    unfolding pairs words_of_row
    row_words i = ap (λ (l : List ℕ). i * cycle p ∷ ref_id p ∷ l) (pairs-run p w (columns p) (cell_sends p w t i) ∙ run-same _ _ (columns p) (λ c lc. cell-words i c (held i c lc)))

    cell-steps : (i : ℕ) → Steps (start_of p w) (columns p) (λ c. i * cycle p + earliest p c) (cell_sends p w t i)
    unfolding earliest
    cell-steps i = record {
      up = λ c lc. omega (arith, (a.formed.column c lc).ordered);
      each = λ c lc. cell-climbs i c lc (held i c lc);
    }

    row-climbs : (i : ℕ) → Climbs (start_of p w) (i * cycle p) (suc i * cycle p) (row_sends p w t i)
    unfolding earliest
    row-climbs i =
        let h = a.formed.header in
        let cells : Climbs (start_of p w) (i * cycle p + ref_len p) (suc i * cycle p) (run (columns p) (cell_sends p w t i)) =
        climbs-wide _ (omega arith) (omega (arith, last_end p a.formed)) (climbs-run _ (columns p) (cell-steps i)) in
        climbs-append _ {mid = i * cycle p + ref_len p} _ _ (omega arith) (omega (arith, h.reference-most)) (climbs-one _ (omega arith) (omega (arith, h.reference-least))) cells

    row-on-bus : (i : ℕ) (o : Occurrence) → Memᴰ o (row_sends p w t i) → OnBus p o.source
    row-on-bus i o m = ⊎_elim (λ e. rw e tt) (λ k. let f = of-run _ (columns p) o k in cell-on-bus i f.at o (held i f.at f.below) f.member) (Memᴰ.cases_cons m)

    -- ---- all rows
    module _ (span : ℕ) where
      all-climb : Climbs (start_of p w) 0 (span * matrix p) (run (span * rows p) (row_sends p w t))
      all-climb =
          climbs-wide _ (omega arith) (omega arith)
          (climbs-run _ (span * rows p) {lo = λ i. i * cycle p} record { up = λ i l. omega arith; each = λ i l. row-climbs i })

      all_here : (s : Source) (n : ℕ) → OnBus p s → begins p w s n < span * matrix p → Memᴰ (occurrence s n) (run (span * rows p) (row_sends p w t))
      all_here reference n u l =
          in-run _ (span * rows p) n (lt_of_mul-lt-mul_right (cycle p) {m = n} {n = span * rows p} (omega arith)) (Memᴰ.head refl)
      all_here (message j) n u l =
          let i = row w j + n * repeat p j in
          let c = (at a j u).placed.column-below in
          let early = lt_of_mul-lt-mul_right (cycle p) {m = i} {n = span * rows p} (omega (arith, send-is p w j (at a j u) n)) in
          in-run _ (span * rows p) i early (Memᴰ.tail (in-run _ (columns p) (column w j) c (cell-has i j n u refl (held i (column w j) c))))

      walked : DueList p w span (run (span * rows p) (row_sends p w t))
      walked = record {
        only = λ o m. let f = of-run _ (span * rows p) o m in record { on-bus = row-on-bus f.at o f.member; in-time = all-climb.to o m };
        all = λ o h. all_here o.source o.turn h.on-bus h.in-time;
        rising = all-climb.rising;
      }

-- the theorem
pub rows-due : {p w t : List ℕ} → Accepted p w → Table p w (messages p) t → (span : ℕ) → IsDue p w span (run (span * rows p) (words_of_row p t))
rows-due {p} {w} {t} a b span = record {
  list = run (span * rows p) (row_sends p w t);
  list-is = walked a b span;
  words = sym (pairs-run p w (span * rows p) (row_sends p w t) ∙ run-same _ _ (span * rows p) (λ i l. row_words a b i));
}
