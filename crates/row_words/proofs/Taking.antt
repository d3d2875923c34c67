-- The row words, message by message: each marks its cells, and finds one of them set exactly where it meets an earlier one.
use Rattle.std.proofs.Common.{ℕ, ◌+◌, ◌*◌, ◌<◌, ◌≡◌, refl, sym, ◌∙◌, Bool, true, false, List, ⊎_elim, eq-or-lt_of_le, le_of_suc-le-suc, arith, get_or, replicate}
use lib.ListN.{length-replicate, get_or-replicate}
use Rattle.basics.specs.Bits.{Has}
use Rattle.basics.specs.Tests.{some}
use Rattle.basics.proofs.Bits.{has-none}
use Rattle.basics.proofs.Strides.{on-stride}
use Rattle.basics.proofs.Tests.{T_true, true-T, never, not-both, some-on, some-off}
use Rattle.rules.specs.Cells.{Here}
use Rattle.rules.specs.Parts.{Member}
use Rattle.rules.specs.Problem.{most_rows, rows, repeat, column, row, WellFormed, Placed}
use Rattle.rules.specs.Tests.{meets}
use Rattle.rules.proofs.Bounds.{member, repeat-least}
use Rattle.rules.proofs.Cells.{cell-meets, meets-cell}
use Rattle.rules.proofs.Meaning.{Meets, meets-is, is-meets}
use Rattle.row_words.specs.RowWords.{Taken, RowWords, Occupied}

-- no message has taken anything
pub words-none : (p w : List ℕ) → WellFormed p → RowWords p w 0 (replicate most_rows 0)
words-none p w wf = record {
  long = length-replicate {A = ℕ} most_rows 0;
  each = λ i c li. (
    λ h. absurd (has-none c (rw (get_or-replicate {A = ℕ} most_rows i 0 0 (omega (arith, wf.header.rows-most))) at h)),
    λ t. absurd (omega (arith, t.among)),
  );
}

module _ {p w t t' : List ℕ} {j : ℕ} {b : Bool} (m : Member p j) (g : RowWords p w j t) (o : Occupied t (column w j) (row w j) (repeat p j) (rows p) t' b) where
  -- a row is one of the message's, or its word is as it was
  by_row : {P : Type 0} (i : ℕ) → ((k : ℕ) → i ≡ row w j + k * repeat p j → P) → (get_or t' i 0 ≡ get_or t i 0 → P) → P
  by_row i f h =
      ⊎_elim (λ s. f s.0 s.1) (λ n. h (o.marked.elsewhere i (λ k l. n k))) (on-stride (row w j) (repeat p j) i (repeat-least m))

  pub words_more : RowWords p w (j + 1) t'
  words_more = record { long = o.marked.long ∙ g.long; each = λ i c li. (only i c li, all i c li) }
    where
      later : {i c : ℕ} → Taken p w j i c → Taken p w (j + 1) i c
      later k = record { by = k.by; among = omega (arith, k.among); here = k.here }

      only : (i c : ℕ) → i < rows p → Has (get_or t' i 0) c → Taken p w (j + 1) i c
      only i c li h =
          by_row i
          (λ k e.
          let here = o.marked.here k (omega arith) in
          ⊎_elim
          (λ q. record { by = j; among = omega arith; here = record { same-column = sym q; turn = k; same_row = sym e } })
          (λ q. later ((g.each i c li).0 (rw e q)))
          (here.only c (rw e at h)))
          (λ e. later ((g.each i c li).0 (rw e at h)))

      all : (i c : ℕ) → i < rows p → Taken p w (j + 1) i c → Has (get_or t' i 0) c
      all i c li k =
          ⊎_elim
          (λ e. own (rw e at k.here))
          (λ l.
          let h = (g.each i c li).1 (record { by = k.by; among = l; here = k.here }) in
          by_row i (λ n e. rw e ((o.marked.here n (omega arith)).keeps c (rw e at h))) (λ e. rw e h))
          (eq-or-lt_of_le (le_of_suc-le-suc (omega (arith, k.among))))
        where
          own : Here p w j i c → Has (get_or t' i 0) c
          own h = rw (← h.same_row, ← h.same-column) (o.marked.here h.turn (omega (arith, h.same_row))).here

  -- the theorem: it found one of its cells set exactly where it meets an earlier message, if it has its place, and so has each that it meets
  pub tells-meeting : Placed p j (column w j) (row w j) → ((k : ℕ) → k < j → Meets p w k j → Placed p k (column w k) (row w k)) → b ≡ some j (λ k. meets p w k j)
  tells-meeting own placed = go b refl
    where
      earlier : (k : ℕ) → k < j → Member p k
      earlier k l = member m.formed (omega (arith, m.below))

      go : (x : Bool) → b ≡ x → x ≡ some j (λ k. meets p w k j)
      go true e =
          let s = o.before.0 e in
          let k = (g.each (row w j + s.turn * repeat p j) (column w j) s.low).0 s.set in
          let met = cell-meets (earlier k.by k.among) m k.here record { same-column = refl; turn = s.turn; same_row = refl } in
          sym (some-on j k.by (λ k. meets p w k j) k.among (T_true _ (is-meets p w k.by j met)))
      go false e =
          sym (some-off j (λ k. meets p w k j) (λ k l. never (meets p w k j) (λ h.
          let met = meets-is p w k j (true-T h) in
          let c = meets-cell (earlier k l) m (placed k l met) own met in
          let set = (g.each c.at_row (column w j) c.low).1 record { by = k; among = l; here = c.first } in
          let found = o.before.1 record { turn = c.second.turn; low = omega (arith, c.low, c.second.same_row); set = rw c.second.same_row set } in
          not-both found e)))
