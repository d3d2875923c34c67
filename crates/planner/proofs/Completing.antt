-- The least plan that keeps the kept placements, from the least that suits the other messages around them.
use Prim.Native.Nat.{ℕ, ◌*◌, ◌+◌, ◌<◌, ◌≤◌}
use mathlib.Core.Path.{◌≡◌, sym, ◌∙◌}
use mathlib.Core.Bool.{Bool, true, false}
use mathlib.Core.List.{List}
use native.Mathlib.Omega.{arith}
use lib.ListN.{length, get_or, take}
use lib.Seq.{get_or-take, length-take-le}
use Rattle.rules.specs.Problem.{most_messages, messages, proposal_words}
use Rattle.kept.specs.Kept.{Keeping}
use Rattle.rest.specs.Part.{Part}
use Rattle.rest.specs.Joined.{Joined}
use Rattle.planner.specs.Order.{Agree}
use Rattle.planner.specs.Least.{PlanKeeping}
use Rattle.planner.specs.Search.{Suiting, Best, Nowhere, Searched}
use Rattle.planner.specs.Complete.{Sound, Completed, Completes}
use Rattle.std.specs.Prelude.{Option, Some, None}
use Rattle.planner.proofs.Order.{agree-none, agree_less, not-after-agree}
use Rattle.planner.proofs.Gone.{fault-agree}
use Rattle.planner.proofs.Least.{plan-stands, stands-plan}
use Rattle.planner.proofs.Parting.{Picked, pick, picked, suits-rest, stands-whole, not-after-whole}

-- a list, if it was found
abbrev pub found : Bool → List ℕ → Option (List ℕ)
found true u = Some u
found false u = None

module _ {p k t m q : List ℕ} {n : ℕ} (S : Sound p k t m n) (Q : Part p m n q) where
  -- a plan that keeps them suits the others by its slots
  picked-suits : (v : List ℕ) → PlanKeeping p k v → Suiting q t (pick v m n n)
  picked-suits v h = suits-rest S Q (plan-stands S.formed h.plan) h.keeping (picked v m n)

  module _ {u w : List ℕ} (long : length w ≡ 2 * most_messages) (J : Joined k m n u (messages p) w) where
    joined_keeps : Keeping p k w
    joined_keeps = record { columns-same = J.kept-columns; rows_same = J.kept-rows }

    joined-picked : Picked w m u n
    joined-picked = record { columns-same = J.free-columns; rows_same = J.free-rows }

    room : proposal_words p ≤ length w
    room = let most = S.formed.header.messages-most in omega arith

    -- its first words place the messages as it does
    front : Agree w (take (proposal_words p) w) (messages p)
    front =
        let same : (i : ℕ) → i < proposal_words p → get_or w i 0 ≡ get_or (take (proposal_words p) w) i 0 = λ i l. sym (get_or-take (proposal_words p) w i 0 l) in
        record { columns-same = λ j l. same (2 * j) (omega arith); rows_same = λ j l. same (2 * j + 1) (omega arith) }

    front-keeps : Keeping p k (take (proposal_words p) w)
    front-keeps = record {
      columns-same = λ j l y. sym (front.columns-same j l) ∙ J.kept-columns j l y;
      rows_same = λ j l y. sym (front.rows_same j l) ∙ J.kept-rows j l y;
    }

    pub completed : {z : List ℕ} → Best (Suiting q t) (messages q) 0 z u → Completed p k w
    completed {z} B =
        let stood = stands-whole S Q B.among J in
        let count = Q.count in
        record {
          long = room;
          least = record {
            plan = record {
              plan = stands-plan S.formed (length-take-le (proposal_words p) w room)
                  (record { each = λ j l. sym (fault-agree p j (agree_less (j + 1) (omega arith) front)) ∙ stood.each j l });
              keeping = front-keeps;
            };
            least = λ v h. not-after-agree v front
                (not-after-whole S Q joined_keeps h.keeping joined-picked (picked v m n)
                (rw count at (B.least (pick v m n n) (picked-suits v h) (agree-none z (pick v m n n)))));
          };
        }

  pub incomplete : {z : List ℕ} → Nowhere (Suiting q t) 0 z → (v : List ℕ) → PlanKeeping p k v → ⊥
  incomplete {z} N v h = N.none (pick v m n n) (picked-suits v h) (agree-none z (pick v m n n))

  -- so what was found for the others, or that nothing was, is that of the whole
  pub completes : {u w : List ℕ} → length w ≡ 2 * most_messages → Joined k m n u (messages p) w → (z : List ℕ) (b : Bool)
      → Searched (Suiting q t) (messages q) 0 z (found b u) → Completes p k (found b w)
  completes long whole z true B = completed long whole B
  completes long whole z false N = incomplete N
