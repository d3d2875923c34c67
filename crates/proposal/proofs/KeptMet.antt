-- What the fault of placements to keep says: who is named of a meeting, when there is none, and what it is where all messages are kept, or none is.
use Prim.Native.Nat.{ℕ, ◌<◌}
use mathlib.Core.Path.{◌≡◌, ap, ◌∙◌, sym}
use mathlib.Core.Bool.{true, false, not}
use mathlib.Core.List.{List}
use mathlib.Core.Logic.{inl, inr, ◌↔◌, ⊎_elim}
use native.Mathlib.Omega.{arith}
use lib.Dec.{eqb}
use lib.ListN.{length}
use borrow.Author.Tests.{eq-eqb, eqb-true}
use Rattle.basics.proofs.Tests.{true-or, true-T, not-both}
use Rattle.rules.specs.declared.Refusal.TheVariants.{ProposalLength, Meeting}
use Rattle.rules.specs.Problem.{messages, proposal_words, column, row, WellFormed}
use Rattle.rules.specs.Refusal.{guard, ◌⊕◌, first_fault}
use Rattle.rules.specs.Tests.{meets, own_fault, meeting_fault, fault, proposal_fault}
use Rattle.rules.proofs.Faults.{bad-not-clear, clear_both, clear-guard, clear-test, bad-guard, bad-either, first-clear, clear_first, first-same, bad-first}
use Rattle.rules.proofs.Meaning.{own_alone, meets-is}
use Rattle.rules.proofs.Named.{lower, not_own}
use Rattle.kept.specs.Kept.{keeps}
use Rattle.proposal.specs.Partial.{fault_in, kept_fault}
use Rattle.proposal.proofs.Walk.{looked-fault, unlooked-clear, column-looked}
use Rattle.std.specs.Prelude.{Err, Ok}

-- ---- a meeting
-- both messages are kept, and no kept message before the later one has a fault
pub record KeptMet (p k : List ℕ) (j i : ℕ) : Type 0 where
  pub among : j < messages p
  pub later-kept : keeps k j ≡ true
  pub earlier-kept : keeps k i ≡ true
  pub before : (l : ℕ) → l < j → keeps k l ≡ true → fault p k l ≡ Ok tt
  pub earlier : i < j
  pub meet : meets p k i j ≡ true
  pub lowest : (l : ℕ) → l < i → meets p k l j ≡ false

named : {p k : List ℕ} {j i l h : ℕ} → Meeting j i ≡ Meeting l h → KeptMet p k l h → KeptMet p k j i
named {j = j} {i = i} {l = l} {h = h} e m = let ej : j ≡ l = cc in let ei : i ≡ h = cc in rw (ej, ei) m

module _ (p k : List ℕ) {j i : ℕ} where
  -- the fault of a kept message
  at-met : (l : ℕ) → WellFormed p → l < messages p → keeps k l ≡ true → ((h : ℕ) → h < l → fault_in true p k h ≡ Ok tt) → fault p k l ≡ Err (Meeting j i) → KeptMet p k j i
  unfolding fault meeting_fault
  at-met l wf below kept before e =
      elim (bad-either (own_fault p l (column k l) (row k l)) _ e) [
        | inl a ↦ not_own p k l a
        | inr d ↦
            let g = bad-first l (λ h. guard (meets p k h l) (Meeting l h)) d.1 in
            let h = bad-guard (meets p k g.at l) (Meeting l g.at) g.here in
            let placed = (own_alone p l (column k l) (row k l) d.0).placed in
            named h.1 record {
              among = below;
              later-kept = kept;
              earlier-kept = column-looked true k g.at wf placed.column-below (meets-is p k g.at l (true-T h.0)).one-column;
              before = λ m n o. sym (looked-fault true p k m o) ∙ before m n;
              earlier = g.below;
              meet = h.0;
              lowest = λ m n. clear-guard _ _ (g.before m n);
            }
      ]

  -- the theorem: it is the first kept message with a fault, and the lowest earlier one that it meets, which is kept too
  pub kept-met : WellFormed p → kept_fault p k ≡ Err (Meeting j i) → KeptMet p k j i
  unfolding kept_fault
  kept-met wf e =
      elim (bad-either (guard (not (eqb (length k) (proposal_words p))) ProposalLength) _ e) [
        | inl a ↦ lower p k (not (eqb (length k) (proposal_words p))) ProposalLength (omega arith) a
        | inr b ↦
            let f = bad-first (messages p) (fault_in true p k) b.1 in
            elim (true-or (keeps k f.at)) [
              | inl y ↦ at-met f.at wf f.below y f.before (sym (looked-fault true p k f.at y) ∙ f.here)
              | inr n ↦ bad-not-clear (unlooked-clear true p k f.at n) f.here
            ]
      ]

-- ---- no fault: k has its words, and each message that it keeps has none
pub record KeptClear (p k : List ℕ) : Type 0 where
  pub words : length k ≡ proposal_words p
  pub each : (j : ℕ) → j < messages p → keeps k j ≡ true → fault p k j ≡ Ok tt

module _ (p k : List ℕ) where
  pub kept-faultless : (kept_fault p k ≡ Ok tt) ↔ KeptClear p k
  unfolding kept_fault
  kept-faultless = (
    λ e.
        let whole = eqb (length k) (proposal_words p) in
        let a = clear_both (guard (not whole) ProposalLength) (first_fault (messages p) (fault_in true p k)) e in
        record {
          words = eqb-true _ _ (clear-test whole ProposalLength a.0);
          each = λ j l y. sym (looked-fault true p k j y) ∙ clear_first (messages p) (fault_in true p k) a.1 j l;
        },
    λ h. rw (eq-eqb _ _ h.words) (first-clear (messages p) (fault_in true p k) λ j l. ⊎_elim
        (λ y. looked-fault true p k j y ∙ h.each j l y)
        (λ n. unlooked-clear true p k j n)
        (true-or (keeps k j))),
  )

-- ---- all messages are kept, or none
module _ (p k : List ℕ) where
  -- then it is the fault of a proposal
  pub all-kept : ((j : ℕ) → j < messages p → keeps k j ≡ true) → kept_fault p k ≡ proposal_fault p k
  unfolding kept_fault proposal_fault
  all-kept h =
      ap (guard (not (eqb (length k) (proposal_words p))) ProposalLength ⊕◌) (first-same (messages p) (fault_in true p k) (fault p k) (λ j l. looked-fault true p k j (h j l)))

  pub kept-none : length k ≡ proposal_words p → ((j : ℕ) → j < messages p → keeps k j ≡ false) → kept_fault p k ≡ Ok tt
  kept-none e h = (kept-faultless p k).1 record { words = e; each = λ j l y. not-both y (h j l) }
