-- Planning again where nothing is kept is planning, and where everything is kept it answers what is kept, or refuses as judge does.
use Prim.Native.Nat.{ℕ, zero, suc, ◌<◌}
use mathlib.Core.Path.{◌≡◌, refl, sym, subst, ◌∙◌}
use mathlib.Core.Bool.{true, false}
use mathlib.Core.List.{List}
use mathlib.Core.Logic.{◌↔◌}
use native.Mathlib.Omega.{arith}
use lib.ListN.{length}
use Rattle.basics.specs.Sums.{sum}
use Rattle.basics.proofs.Tests.{not-both}
use Rattle.rules.specs.Paper.{Answers, room_fault, Answer}
use Rattle.rules.specs.Problem.{messages, proposal_words}
use Rattle.rules.specs.Refusal.{◌⊕◌, Fault}
use Rattle.rules.specs.Tests.{proposal_fault}
use Rattle.rules.proofs.Exact.{exact}
use Rattle.rules.proofs.Faults.{clear_both}
use Rattle.problem.specs.File.{words_of}
use Rattle.problem.specs.Wrong.{file_fault}
use Rattle.kept.specs.Kept.{keeps}
use Rattle.proposal.specs.Accepted.{check_fault}
use Rattle.proposal.proofs.Accepting.{clear-accepted}
use Rattle.proposal.proofs.KeptMet.{all-kept, kept-none}
use Rattle.rest.specs.Free.{free_of}
use Rattle.planner.specs.Least.{Plan, PlanKeeping}
use Rattle.planner.specs.Promise.{Chosen, refused, none, planned, unready, Planning, unready_again, Replanning}
use Rattle.planner.proofs.Order.{agree-eq}
use Rattle.std.specs.Prelude.{Err, Ok}

-- ---- how many messages are not kept
none_free : (k : List ℕ) (h : ℕ) → ((j : ℕ) → j < h → keeps k j ≡ true) → free_of k h ≡ 0
unfolding free_of sum
none_free k zero y = refl
none_free k (suc h) y = rw (none_free k h (λ j l. y j (omega arith)), y h (omega arith)) refl

all-free : (k : List ℕ) (h : ℕ) → ((j : ℕ) → j < h → keeps k j ≡ false) → free_of k h ≡ h
unfolding free_of sum
all-free k zero n = refl
all-free k (suc h) n = rw (all-free k h (λ j l. n j (omega arith)), n h (omega arith)) (omega arith)

-- ---- the same proposals, after the same fault
module _ {A B : List ℕ → Type 0} (on : (w : List ℕ) → A w → B w) (back : (w : List ℕ) → B w → A w) where
  chosen-same : {n : ℕ} {x y : Fault} {d e : List ℕ} {r : Answer} → y ≡ x → Chosen A n x d e r → Chosen B n y d e r
  chosen-same q (refused t e a) = refused t (q ∙ e) a
  chosen-same q (none e f a) = none (q ∙ e) (λ w b. f w (back w b)) a
  chosen-same q (planned e w l a) = planned (q ∙ e) w record { plan = on w l.plan; least = λ v b. l.least v (back v b) } a

-- ---- k keeps no message of p
pub record KeepsNone (p k : List ℕ) : Type 0 where
  pub words : length k ≡ proposal_words p
  pub none_kept : (j : ℕ) → j < messages p → keeps k j ≡ false

module _ (f : List ℕ) {k : List ℕ} (n : KeepsNone (words_of f) k) where
  same-fault : (d : List ℕ) → file_fault f ⊕ unready_again (words_of f) k d ≡ file_fault f ⊕ unready (words_of f) d
  same-fault d = rw (kept-none (words_of f) k n.words n.none_kept, all-free k (messages (words_of f)) n.none_kept) refl

  keeps-it : (w : List ℕ) → Plan (words_of f) w → PlanKeeping (words_of f) k w
  keeps-it w h = record { plan = h; keeping = record { columns-same = λ j l y. not-both y (n.none_kept j l); rows_same = λ j l y. not-both y (n.none_kept j l) } }

  -- the theorem: the promise is plan's
  pub nothing-kept : {d e : List ℕ} {r : Answer} → Replanning f k d e r ↔ Planning f d e r
  nothing-kept {d} = (
    λ h. record { answered = chosen-same (λ w a. a.plan) keeps-it (sym (same-fault d)) h.answered },
    λ h. record { answered = chosen-same keeps-it (λ w a. a.plan) (same-fault d) h.answered },
  )

-- ---- k keeps every message of p
pub record KeepsAll (p k : List ℕ) : Type 0 where
  pub each : (j : ℕ) → j < messages p → keeps k j ≡ true

-- what is wrong with a file, with a proposal, and with the room
turn : (a b c : Fault) → a ⊕ b ⊕ c ≡ (a ⊕ b) ⊕ c
turn (Ok tt) b c = refl
turn (Err q) b c = refl

module _ (f : List ℕ) {k : List ℕ} (n : KeepsAll (words_of f) k) where
  judged-fault : (d : List ℕ) → file_fault f ⊕ unready_again (words_of f) k d ≡ check_fault f k ⊕ room_fault (proposal_words (words_of f)) (length d)
  judged-fault d =
      rw (all-kept (words_of f) k n.each, none_free k (messages (words_of f)) n.each)
      (turn (file_fault f) (proposal_fault (words_of f) k) (room_fault (proposal_words (words_of f)) (length d)))

  -- without a fault what is kept is a plan, and no other keeps it
  is-plan : check_fault f k ≡ Ok tt → PlanKeeping (words_of f) k k
  is-plan c =
      let a = clear-accepted f k c in
      let both = (exact (words_of f) k a.formed).0 a.faultless in
      record { plan = record { in-range = both.0; acceptable = both.1 }; keeping = record { columns-same = λ j l y. refl; rows_same = λ j l y. refl } }

  only-plan : {w : List ℕ} → check_fault f k ≡ Ok tt → PlanKeeping (words_of f) k w → w ≡ k
  only-plan {w} c h =
      agree-eq (messages (words_of f)) w k h.plan.in-range.words (is-plan c).plan.in-range.words
      record { columns-same = λ j l. h.keeping.columns-same j l (n.each j l); rows_same = λ j l. h.keeping.rows_same j l (n.each j l) }

  settle : {x : Fault} {d e : List ℕ} {r : Answer} → x ≡ check_fault f k ⊕ room_fault (proposal_words (words_of f)) (length d) → Chosen (PlanKeeping (words_of f) k) (messages (words_of f)) x d e r
      → Answers x k d e r
  settle {d = d} {e} {r} q (refused t h a) = rw h record { paper-is = a.paper-is; count-is = a.count-is; buffer-is = a.buffer-is }
  settle {d = d} {e} {r} q (none h g a) = absurd (g k (is-plan (clear_both (check_fault f k) _ (sym q ∙ h)).0))
  settle {d = d} {e} {r} q (planned h w l a) =
      let c = (clear_both (check_fault f k) _ (sym q ∙ h)).0 in
      rw h (subst (λ (v : List ℕ). Answers (Ok tt) v d e r) (only-plan c l.plan) a)

  -- the theorem: what is kept is answered exactly where judge accepts it and there is room, and else judge's refusal
  pub everything-kept : {d e : List ℕ} {r : Answer} → Replanning f k d e r → Answers (check_fault f k ⊕ room_fault (proposal_words (words_of f)) (length d)) k d e r
  everything-kept {d} {e} {r} h = subst (λ (x : Fault). Answers x k d e r) (judged-fault d) (settle (judged-fault d) h.answered)
