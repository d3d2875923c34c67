-- The walk over the messages that drops those without which the rest has no plan either: what it knows of those that it has asked about.
use Prim.Native.Nat.{ℕ, ◌+◌, ◌<◌, ◌≤◌}
use mathlib.Core.Path.{◌≡◌, refl, sym, ap, ◌∙◌}
use mathlib.Core.Bool.{Bool, true, false}
use mathlib.Core.List.{List, []}
use mathlib.Core.Logic.{⊎_elim}
use native.Mathlib.Omega.{arith}
use borrow.Author.Count.{below_more}
use lib.ListN.{length, get_or}
use Rattle.basics.proofs.Tests.{below_or}
use Rattle.rules.specs.Problem.{messages, field}
use Rattle.places.specs.Places.{most_planned, Few}
use Rattle.rest.specs.Free.{Slot}
use Rattle.rest.specs.Part.{Part, Numbers}
use Rattle.rest.proofs.Formed.{part-formed}
use Rattle.planner.specs.Least.{Planless, Decides}
use Rattle.planner.proofs.Least.{stands-plan}
use Rattle.crowd.specs.Crowd.{Together, Crowded, Among, Crowd}
use Rattle.crowd.specs.Walk.{DecidesTogether, Counts, Without}
use Rattle.crowd.proofs.Fewer.{together-fewer}
use Rattle.crowd.proofs.Dropping.{without-numbers, among-whole, among-left}
use Rattle.crowd.proofs.Missing.{missing}

-- the problem of their own has a plan or none
pub part-decides : {p m q : List ℕ} {n : ℕ} → Part p m n q → (b : Bool) → Decides q b → DecidesTogether p m n b
part-decides Q true P = record { own = _; part = Q; plan = P }
part-decides Q false P = record { own = _; part = Q; none = P }

-- the messages in m have no plan together, and each before message j is needed for that: those among them without it have one
pub record Walked (p m : List ℕ) (j : ℕ) : Type 0 where
  pub numbers : Numbers p m (length m)
  pub most : length m ≤ most_planned
  pub none : Crowded p m (length m)
  pub needed : (x : ℕ) → x < j → Slot m (length m) x → (k : List ℕ) (h : ℕ) → Numbers p k h → Among k h m (length m) → h ≤ length m → (Slot k h x → ⊥) → Together p k h

module _ {p : List ℕ} (F : Few p) where
  -- all messages are the problem itself
  all-part : {m : List ℕ} → Counts m (messages p) → Part p m (messages p) p
  all-part {m} C = record {
    long = F.formed.words;
    count = refl;
    front = λ i l u. refl;
    records = λ s f l g. ap (λ (j : ℕ). field p j f) (sym (C.each s l));
  }

  pub walked_none : {m : List ℕ} {n : ℕ} → n ≡ messages p → (length m ≡ n) × Counts m n → Planless p → Walked p m 0
  walked_none {m} e C P =
      let long : length m ≡ messages p = C.0 ∙ e in
      let counts : Counts m (messages p) = rw e at C.1 in
      record {
        numbers = rw long record {
          below = λ s l. omega (arith, counts.each s l);
          rising = λ s t g l. omega (arith, counts.each s (omega arith), counts.each t l);
        };
        most = omega (arith, F.most);
        none = rw long record { own = p; part = all-part counts; none = P };
        needed = λ x l. absurd (omega arith);
      }

  module _ {m k : List ℕ} {j : ℕ} (W : Walked p m j) (D : Without m (length m) j k) where
    left-numbers : Numbers p k (length k)
    left-numbers = without-numbers W.numbers D

    -- without the next message there is a plan
    pub walked-needed : {b : Bool} → b ≡ true → DecidesTogether p k (length k) b → Walked p m (j + 1)
    walked-needed e T = record {
      numbers = W.numbers;
      most = W.most;
      none = W.none;
      needed = below_more _ j W.needed (λ at u h U A g not.
          together-fewer left-numbers U (among-left W.numbers D A not) F.formed (omega (arith, D.few, W.most)) (omega (arith, W.most)) (rw e at T));
    }

    -- without it there is none
    pub walked-dropped : {b : Bool} → b ≡ false → DecidesTogether p k (length k) b → Walked p k (j + 1)
    walked-dropped e C = record {
      numbers = left-numbers;
      most = omega (arith, D.few, W.most);
      none = rw e at C;
      needed = λ x l at u h U A less not.
          let there = D.among.each at.slot at.among in
          let other : x ≡ j → ⊥ = λ f. D.lacks at.slot at.among (at.is ∙ f) in
          W.needed x (omega arith) record { slot = there.slot; among = there.among; is = there.is ∙ at.is } u h U (among-whole W.numbers D A) (omega (arith, D.few)) not;
    }

  -- no message at all has a plan
  some : {m : List ℕ} {n : ℕ} → Numbers p m n → Crowded p m n → n ≤ most_planned → 0 < n
  some {m} {n} N C few =
      ⊎_elim
      (λ l. l)
      (λ l.
      let formed = part-formed N F.formed (omega arith) C.part in
      let count = C.part.count in
      absurd (C.none.none [] (stands-plan formed (omega arith) record { each = λ j g. absurd (omega arith) })))
      (below_or 0 n)

  pub walked_all : {m : List ℕ} {j : ℕ} → messages p ≤ j → Walked p m j → Crowd p m (length m)
  walked_all {m} l W = record {
    numbers = W.numbers;
    some = some W.numbers W.none W.most;
    none = W.none;
    fewer = λ k h K A g.
        let lost = missing K W.numbers g in
        let at : Slot m (length m) (get_or m lost.at 0) = record { slot = lost.at; among = lost.below; is = refl } in
        W.needed _ (omega (arith, W.numbers.below lost.at lost.below)) at k h K A (omega arith) lost.lacks;
  }
