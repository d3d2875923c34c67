-- From what the search finds among proposals without a fault to the least plan: these are the same proposals.
use Prim.Native.Nat.{ℕ, ◌+◌, ◌*◌, ◌<◌, ◌≤◌}
use mathlib.Core.Path.{◌≡◌, sym, ◌∙◌}
use mathlib.Core.List.{List}
use native.Mathlib.Omega.{arith}
use lib.ListN.{length, get_or, take}
use lib.Seq.{get_or-take, length-take-le}
use Rattle.rules.specs.Problem.{messages, proposal_words, WellFormed}
use Rattle.rules.specs.Tests.{Stand}
use Rattle.rules.proofs.Exact.{exact}
use Rattle.rules.proofs.Meaning.{fault-sound, sound-fault, faultless}
use Rattle.planner.specs.Order.{Agree}
use Rattle.planner.specs.Least.{Plan, Least}
use Rattle.planner.specs.Search.{Best, Nowhere}
use Rattle.planner.proofs.Order.{agree-none, agree_less, not-after-agree}
use Rattle.planner.proofs.Gone.{fault-agree}

module _ {p : List ℕ} (wf : WellFormed p) where
  pub plan-stands : {w : List ℕ} → Plan p w → Stand p (messages p) w
  plan-stands {w} h = record { each = λ j l. sound-fault p w j (((faultless p w).0 ((exact p w wf).1 (h.in-range, h.acceptable))).each j l) }

  pub stands-plan : {w : List ℕ} → length w ≡ proposal_words p → Stand p (messages p) w → Plan p w
  stands-plan {w} e S =
      let h = (exact p w wf).0 ((faultless p w).1 record { words = e; each = λ j l. fault-sound p w j (S.each j l) }) in
      record { in-range = h.0; acceptable = h.1 }

  -- the first words of what is found are the least plan
  pub least-plan : (z u : List ℕ) → proposal_words p ≤ length z → Best (Stand p (messages p)) (messages p) 0 z u → Least p (take (proposal_words p) u)
  least-plan z u room B =
      let long = B.long in
      let same : (k : ℕ) → k < proposal_words p → get_or u k 0 ≡ get_or (take (proposal_words p) u) k 0 = λ k l. sym (get_or-take (proposal_words p) u k 0 l) in
      let g : Agree u (take (proposal_words p) u) (messages p) =
      record { columns-same = λ j l. same (2 * j) (omega arith); rows_same = λ j l. same (2 * j + 1) (omega arith) } in
      record {
        plan = stands-plan (length-take-le (proposal_words p) u (omega arith))
            (record { each = λ j l. sym (fault-agree p j (agree_less (j + 1) (omega arith) g)) ∙ B.among.each j l });
        least = λ v h. not-after-agree v g (B.least v (plan-stands h) (agree-none z v));
      }

  pub no-plan : {z : List ℕ} → Nowhere (Stand p (messages p)) 0 z → (w : List ℕ) → Plan p w → ⊥
  no-plan {z} N w h = N.none w (plan-stands h) (agree-none z w)
