-- What the two places of number 13 say: the first message at fault, and the lowest earlier one that it meets.
use Prim.Native.Nat.{ℕ, ◌<◌}
use mathlib.Core.Path.{◌≡◌, ap}
use mathlib.Core.Bool.{Bool, true, false, not}
use mathlib.Core.List.{List}
use mathlib.Core.Logic.{inl, inr}
use native.Mathlib.Omega.{arith}
use lib.Dec.{eqb}
use lib.ListN.{length}
use Rattle.rules.specs.declared.Refusal.{Refusal}
use Rattle.rules.specs.declared.Refusal.TheVariants.{ProposalLength, Range, Width, Late, Meeting}
use Rattle.rules.specs.Problem.{messages, proposal_words, column, row}
use Rattle.rules.specs.Paper.{refused}
use Rattle.rules.specs.Refusal.{guard}
use Rattle.rules.specs.Tests.{in_range, fits, timely, meets, own_fault, meeting_fault, fault, Stand, proposal_fault}
use Rattle.rules.proofs.Faults.{clear-guard, bad-guard, bad-either, bad-first}
use Rattle.std.specs.Prelude.{Err}

pub record Met (p w : List ℕ) (j i : ℕ) : Type 0 where
  pub among : j < messages p
  pub before : Stand p j w
  pub earlier : i < j
  pub meet : meets p w i j ≡ true
  pub lowest : (k : ℕ) → k < i → meets p w k j ≡ false

named : {p w : List ℕ} {j i k l : ℕ} → Meeting j i ≡ Meeting k l → Met p w k l → Met p w j i
named {j = j} {i = i} {k = k} {l = l} e m = let ej : j ≡ k = cc in let ei : i ≡ l = cc in rw (ej, ei) m

module _ (p w : List ℕ) {j i : ℕ} where
  -- a test of a lower number finds no meeting
  pub lower : {P : Type 0} (b : Bool) (r : Refusal) → (refused r).number < 13 → guard b r ≡ Err (Meeting j i) → P
  lower b r l e = absurd (let n : 13 ≡ (refused r).number = ap (λ (q : Refusal). (refused q).number) (bad-guard b r e).1 in omega arith)

  -- so a message by itself has none
  pub not_own : {P : Type 0} (l : ℕ) → own_fault p l (column w l) (row w l) ≡ Err (Meeting j i) → P
  unfolding own_fault
  not_own l e =
      elim (bad-either (guard (not (in_range p l (column w l) (row w l))) (Range l)) _ e) [
        | inl a ↦ lower (not (in_range p l (column w l) (row w l))) (Range l) (omega arith) a
        | inr b ↦
            elim (bad-either (guard (not (fits p l (column w l))) (Width l)) _ b.1) [
              | inl a ↦ lower (not (fits p l (column w l))) (Width l) (omega arith) a
              | inr d ↦ lower (not (timely p l (column w l) (row w l))) (Late l) (omega arith) d.1
            ]
      ]

  pub met-lowest : proposal_fault p w ≡ Err (Meeting j i) → Met p w j i
  unfolding proposal_fault fault meeting_fault
  met-lowest e =
      elim (bad-either (guard (not (eqb (length w) (proposal_words p))) ProposalLength) _ e) [
        | inl a ↦ lower (not (eqb (length w) (proposal_words p))) ProposalLength (omega arith) a
        | inr b ↦
            let f = bad-first (messages p) (fault p w) b.1 in
            elim (bad-either (own_fault p f.at (column w f.at) (row w f.at)) _ f.here) [
              | inl a ↦ not_own f.at a
              | inr d ↦
                  let g = bad-first f.at (λ k. guard (meets p w k f.at) (Meeting f.at k)) d.1 in
                  let h = bad-guard (meets p w g.at f.at) (Meeting f.at g.at) g.here in
                  named h.1 record {
                    among = f.below;
                    before = record { each = f.before };
                    earlier = g.below;
                    meet = h.0;
                    lowest = λ k l. clear-guard _ _ (g.before k l);
                  }
            ]
      ]
