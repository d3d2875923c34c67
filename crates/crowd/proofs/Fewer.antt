-- Fewer messages are never harder to plan: of messages that have a plan together, any have one.
use Prim.Native.Nat.{ℕ, ◌+◌, ◌<◌, ◌≤◌}
use mathlib.Core.Path.{◌≡◌, sym, ap, ◌∙◌}
use mathlib.Core.List.{List}
use native.Mathlib.Omega.{arith}
use lib.ListN.{get_or}
use Rattle.rules.specs.Problem.{columns, column_at, message_at, words_for, field, WellFormed}
use Rattle.rest.specs.Part.{Part, Numbers}
use Rattle.rest.proofs.Formed.{part-formed}
use Rattle.rest.proofs.Same.{part-columns, part_field}
use Rattle.planner.proofs.Parting.{slot-before}
use Rattle.crowd.specs.Crowd.{Together, Among}
use Rattle.crowd.proofs.Parts.{Listed, listed, own, part-plan}

-- the number in slot s of k is in slot t of m
record At (m : List ℕ) (n : ℕ) (k : List ℕ) (s t : ℕ) : Type 0 where
  pub below : t < n
  pub is : get_or m t 0 ≡ get_or k s 0

module _ {p m k : List ℕ} {n h : ℕ} (N : Numbers p m n) (K : Numbers p k h) (A : Among k h m n) where
  slots : Listed (At m n k) h
  slots = listed (At m n k) h (λ s l. let at = A.each s l in (at.slot, record { below = at.among; is = at.is }))

  -- by their slots they are messages of the problem that the many make, and they make the same problem of it
  module _ {q r : List ℕ} (Q : Part p m n q) (R : Part p k h r) where
    slot-numbers : Numbers q slots.list h
    slot-numbers = record {
      below = λ s l. omega (arith, (slots.each s l).below, Q.count);
      rising = λ s t g l.
          let a = slots.each s (omega arith) in
          let b = slots.each t l in
          slot-before N _ _ a.below b.below (omega (arith, a.is, b.is, K.rising s t g l));
    }

    slot-part : Part q slots.list h r
    slot-part =
        let same = part-columns Q in
        record {
          long = R.long ∙ ap (λ (c : ℕ). words_for c h) (sym same);
          count = R.count;
          front = λ i l u. let low : i < column_at (columns p) = omega arith in R.front i low u ∙ sym (Q.front i low u);
          records = λ s f l g.
              let a = slots.each s l in
              ap (λ (c : ℕ). get_or r (message_at c s + f) 0) same
              ∙ R.records s f l g
              ∙ ap (λ (j : ℕ). field p j f) (sym a.is)
              ∙ sym (part_field Q _ f a.below g);
        }

  pub together-fewer : WellFormed p → n ≤ 64 → h ≤ 64 → Together p m n → Together p k h
  together-fewer wf few small T =
      let R = own p k h in
      record {
        own = R.words;
        part = R.part;
        plan = part-plan (part-formed N wf few T.part) small (slot-numbers T.part R.part) (slot-part T.part R.part) T.plan;
      }
