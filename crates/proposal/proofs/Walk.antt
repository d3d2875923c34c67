-- The walk over the messages that are looked at, and over the earlier ones where a message found a cell taken, step by step.
use Prim.Native.Nat.{ℕ, ◌+◌, ◌<◌}
use mathlib.Core.Path.{◌≡◌, refl, sym, ◌∙◌}
use mathlib.Core.Bool.{Bool, true, false, not}
use mathlib.Core.List.{List}
use mathlib.Core.Logic.{⊎_elim}
use native.Mathlib.Nat.{eq-or-lt_of_le, le_of_suc-le-suc}
use native.Mathlib.Omega.{arith}
use lib.Dec.{eqb}
use lib.ListN.{length}
use borrow.Author.Count.{below_more}
use borrow.Author.Tests.{eq-eqb, ne_eqb}
use Rattle.basics.specs.Tests.{some}
use Rattle.basics.proofs.Tests.{true-or, not-both, some_at, some-none}
use Rattle.rules.specs.declared.Refusal.{Refusal}
use Rattle.rules.specs.declared.Refusal.TheVariants.{ProposalLength, Meeting}
use Rattle.rules.specs.Parts.{Member}
use Rattle.rules.specs.Problem.{rows, columns, messages, repeat, proposal_words, column, row, WellFormed, Placed}
use Rattle.rules.specs.Refusal.{guard, ◌⊕◌, first_fault, Fault}
use Rattle.rules.specs.Tests.{meets, own_fault, meeting_fault, fault, proposal_fault}
use Rattle.rules.proofs.Faults.{bad-not-clear, first-clear, first-at, first-same}
use Rattle.rules.proofs.Meaning.{Meets, own_alone, unmet-clear, fault-sound}
use Rattle.kept.specs.Kept.{keeps}
use Rattle.kept.proofs.Nobody.{none-column, none_row}
use Rattle.row_words.specs.RowWords.{Taken, RowWords, Occupied}
use Rattle.row_words.proofs.Taking.{tells-meeting, words_more}
use Rattle.proposal.specs.Partial.{looked, fault_in, kept_fault, Walked}
use Rattle.std.specs.Prelude.{Err, Ok}

-- ---- the earlier messages, where one of them meets message j
-- it is none of those before i, so i is an earlier one too
pub sought : (p w : List ℕ) {i j : ℕ} → some j (λ k. meets p w k j) ≡ true → ((k : ℕ) → k < i → meets p w k j ≡ false) → i < j
sought p w {i} {j} h unmet =
    let k = some_at j (λ k. meets p w k j) h in
    let least : ¬ (k.0 < i) = λ l. not-both k.2 (unmet k.0 l) in
    omega (arith, k.1)

-- ---- which messages are looked at
module _ (partial : Bool) (p w : List ℕ) (j : ℕ) where
  pub looked-fault : looked partial w j ≡ true → fault_in partial p w j ≡ fault p w j
  unfolding fault_in
  looked-fault e = rw e

  pub unlooked-clear : looked partial w j ≡ false → fault_in partial p w j ≡ Ok tt
  unfolding fault_in
  unlooked-clear e = rw e

-- one that is not looked at is not kept
pub unlooked-kept : (partial : Bool) (w : List ℕ) (j : ℕ) → looked partial w j ≡ false → keeps w j ≡ false
unlooked-kept true w j e = e
unlooked-kept false w j e = not-both refl e

-- so it stands in no column of the matrix: whoever stands in one is looked at
pub column-looked : (partial : Bool) (w : List ℕ) (k : ℕ) {p : List ℕ} {c : ℕ} → WellFormed p → c < columns p → column w k ≡ c → looked partial w k ≡ true
column-looked partial w k wf l e =
    ⊎_elim
    (λ y. y)
    (λ n. absurd (omega (arith, none-column w k (unlooked-kept partial w k n), e, l, wf.header.columns-most)))
    (true-or (looked partial w k))

-- a message that is not kept has no cell of the matrix: the row words before it are those behind it too
pub words-skip : {p w t : List ℕ} {j : ℕ} → WellFormed p → keeps w j ≡ false → RowWords p w j t → RowWords p w (j + 1) t
words-skip {p} {w} {j = j} wf n g = record {
  long = g.long;
  each = λ i c li. (
    λ h. let k = (g.each i c li).0 h in record { by = k.by; among = omega (arith, k.among); here = k.here },
    λ k. (g.each i c li).1 record { by = k.by; among = before i c li k; here = k.here },
  );
}
  where
    before : (i c : ℕ) → i < rows p → (k : Taken p w (j + 1) i c) → k.by < j
    before i c li k =
        ⊎_elim
        (λ e. absurd (omega (arith, li, none_row w j n, wf.header.rows-most, rw e at k.here.same_row)))
        (λ l. l)
        (eq-or-lt_of_le (le_of_suc-le-suc (omega (arith, k.among))))

-- ---- the messages before j have no fault, as far as they are looked at
pub record Passed (partial : Bool) (p w : List ℕ) (j : ℕ) : Type 0 where
  pub each : (k : ℕ) → k < j → fault_in partial p w k ≡ Ok tt

pub passed_none : {partial : Bool} {p w : List ℕ} → Passed partial p w 0
passed_none = record { each = λ k l. absurd (omega arith) }

pub passed-skip : {partial : Bool} {p w : List ℕ} {j : ℕ} → Passed partial p w j → looked partial w j ≡ false → Passed partial p w (j + 1)
passed-skip a n = record { each = below_more _ _ a.each (unlooked-clear _ _ _ _ n) }

-- f is the fault of message j by itself
pub record Own (p w : List ℕ) (j : ℕ) (f : Fault) : Type 0 where
  pub is : f ≡ own_fault p j (column w j) (row w j)

pub own_read : {p w : List ℕ} {j k r : ℕ} {f : Fault} → k ≡ column w j → r ≡ row w j → f ≡ own_fault p j k r → Own p w j f
own_read ek er e = record { is = rw (ek, er) at e }

-- message j is looked at, has no fault of its own and has marked its cells; b says whether it found one of them taken
pub record Turn (partial : Bool) (p w : List ℕ) (j : ℕ) (t t' : List ℕ) (b : Bool) : Type 0 where
  pub member : Member p j
  pub before : Passed partial p w j
  pub looked-at : looked partial w j ≡ true
  pub own : own_fault p j (column w j) (row w j) ≡ Ok tt
  pub words : RowWords p w j t
  pub marked : Occupied t (column w j) (row w j) (repeat p j) (rows p) t' b

-- from its words as they were read
pub turn-read : {partial : Bool} {p w t t' : List ℕ} {j c r step n : ℕ} {b : Bool} → Member p j → Passed partial p w j → looked partial w j ≡ true
    → own_fault p j (column w j) (row w j) ≡ Ok tt → RowWords p w j t → c ≡ column w j → r ≡ row w j → step ≡ repeat p j → n ≡ rows p → Occupied t c r step n t' b
    → Turn partial p w j t t' b
turn-read m a l e g ec er es en o = record { member = m; before = a; looked-at = l; own = e; words = g; marked = rw (ec, er, es, en) at o }

module _ {partial : Bool} {p w t t' : List ℕ} {j : ℕ} {b : Bool} (u : Turn partial p w j t t' b) where
  placed : Placed p j (column w j) (row w j)
  placed = (own_alone p j (column w j) (row w j) u.own).placed

  -- an earlier message that it meets stands in its column, so that it is looked at and has its place
  met-placed : (k : ℕ) → k < j → Meets p w k j → Placed p k (column w k) (row w k)
  met-placed k l m =
      let seen = column-looked partial w k u.member.formed placed.column-below m.one-column in
      (fault-sound p w k (sym (looked-fault partial p w k seen) ∙ u.before.each k l)).alone.placed

  -- so it found a cell taken exactly where it meets an earlier message
  pub tells : b ≡ some j (λ k. meets p w k j)
  tells = tells-meeting u.member u.words u.marked placed met-placed

  -- where it did, it meets an earlier one than all that it does not meet
  pub taken-met : b ≡ true → {i : ℕ} → ((k : ℕ) → k < i → meets p w k j ≡ false) → i < j
  taken-met h = sought p w (sym tells ∙ h)

  -- where it did not, it meets nobody
  pub untaken : b ≡ false → (k : ℕ) → k < j → meets p w k j ≡ false
  untaken h = some-none j (λ k. meets p w k j) (sym tells ∙ h)

  -- a message that meets nobody has no fault, and the words say what it has taken too
  pub passed-more : ((k : ℕ) → k < j → meets p w k j ≡ false) → Passed partial p w (j + 1)
  unfolding fault
  passed-more h =
      let clear : fault p w j ≡ Ok tt = rw (u.own, unmet-clear p w j h) in
      record { each = below_more _ _ u.before.each (looked-fault partial p w j u.looked-at ∙ clear) }

  pub words-passed : RowWords p w (j + 1) t'
  words-passed = words_more u.member u.words u.marked

-- ---- what the walk hands back
pub walked-bad : {g : Fault} {p w t : List ℕ} {q : Refusal} → Err q ≡ g → Walked g p w t (Err q)
walked-bad e = record { is = e; words = λ h. bad-not-clear h refl }

module _ {partial : Bool} {p w t : List ℕ} {j m : ℕ} (a : Passed partial p w j) where
  pub all-clear : RowWords p w j t → m ≡ messages p → j ≡ m → Walked (first_fault m (fault_in partial p w)) p w t (Ok tt)
  all-clear g em q = record { is = sym (first-clear m (fault_in partial p w) (rw q at a.each)); words = λ e. rw (q ∙ em) at g }

  -- the first fault is that of message j
  first-here : {q : Refusal} → j < m → looked partial w j ≡ true → fault p w j ≡ Err q → Walked (first_fault m (fault_in partial p w)) p w t (Err q)
  first-here {q} l k e = walked-bad (sym (first-at m (fault_in partial p w) j q l a.each (looked-fault partial p w j k ∙ e)))

  pub own_first : {f : Fault} {q : Refusal} → j < m → looked partial w j ≡ true → Own p w j f → f ≡ Err q → Walked (first_fault m (fault_in partial p w)) p w t (Err q)
  unfolding fault
  own_first l k e h = first-here l k (rw (← e.is, h))

  -- or, where it has none by itself, its meeting: of that the lowest earlier message is named
  pub met-first : {i : ℕ} → j < m → looked partial w j ≡ true → own_fault p j (column w j) (row w j) ≡ Ok tt → ((k : ℕ) → k < i → meets p w k j ≡ false) → i < j → meets p w i j ≡ true
      → Walked (first_fault m (fault_in partial p w)) p w t (Err (Meeting j i))
  unfolding fault meeting_fault
  met-first {i} l k own unmet h met =
      let lowest = first-at j (λ k. guard (meets p w k j) (Meeting j k)) i (Meeting j i) h (λ g h. rw (unmet g h)) (rw met) in
      first-here l k (rw own lowest)

-- ---- the number of words comes first
module _ (p w : List ℕ) {n : ℕ} (en : n ≡ proposal_words p) where
  other_length : (length w ≡ n → ⊥) → (g : Fault) → Err ProposalLength ≡ guard (not (eqb (length w) (proposal_words p))) ProposalLength ⊕ g
  other_length h g = rw (ne_eqb (length w) (proposal_words p) (rw en at h))

  right-length : length w ≡ n → (g : Fault) → g ≡ guard (not (eqb (length w) (proposal_words p))) ProposalLength ⊕ g
  right-length h g = rw (eq-eqb (length w) (proposal_words p) (rw en at h))

  -- of a whole proposal every message is looked at
  pub other-proposal : (length w ≡ n → ⊥) → Err ProposalLength ≡ proposal_fault p w
  unfolding proposal_fault
  other-proposal h = other_length h (first_fault (messages p) (fault p w))

  pub right-proposal : {t : List ℕ} {f : Fault} {m : ℕ} → length w ≡ n → m ≡ messages p → Walked (first_fault m (fault_in false p w)) p w t f → f ≡ proposal_fault p w
  unfolding proposal_fault
  right-proposal h em d =
      (rw em at d.is) ∙ first-same (messages p) (fault_in false p w) (fault p w) (λ k l. looked-fault false p w k refl) ∙ right-length h _

  -- of placements to keep those that are kept
  pub other-kept : {t : List ℕ} → (length w ≡ n → ⊥) → Walked (kept_fault p w) p w t (Err ProposalLength)
  unfolding kept_fault
  other-kept h = walked-bad (other_length h (first_fault (messages p) (fault_in true p w)))

  pub right_kept : {t : List ℕ} {f : Fault} {m : ℕ} → length w ≡ n → m ≡ messages p → Walked (first_fault m (fault_in true p w)) p w t f → Walked (kept_fault p w) p w t f
  unfolding kept_fault
  right_kept h em d = record { is = (rw em at d.is) ∙ right-length h _; words = d.words }
