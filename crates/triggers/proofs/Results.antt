-- The call keeps its promise at every answer, and two results that the promise allows are equal.
use Prim.Native.Nat.{ℕ}
use mathlib.Core.Path.{◌≡◌, refl, subst}
use mathlib.Core.List.{List, []}
use lib.ListN.{length}
use Rattle.std.specs.Prelude.{Ok, Err, IsErrAnd}
use Rattle.rules.specs.declared.Refusal.{Refusal}
use Rattle.rules.specs.Paper.{Answers, Answer}
use Rattle.rules.proofs.Faults.{bad-not-clear, handed}
use Rattle.rules.proofs.Told.{answers-refused, answers_one}
use Rattle.rules.specs.Refusal.{Fault}
use Rattle.proposal.specs.Accepted.{check_fault}
use Rattle.proposal.proofs.Accepting.{admitted-length}
use Rattle.triggers.specs.Promise.{ListsAnswered, lists_fault, Listing}
use Rattle.triggers.proofs.Determined.{lists-one}

-- ---- the answers, in their order
pub lists-refused : {fault : Fault} {p w d : List ℕ} (q : Refusal) → fault ≡ Err q → ListsAnswered fault p w d d (Err q)
lists-refused q h = record { lists = []; lists-are = λ e. bad-not-clear e h; answers = answers-refused q h }

-- a refusal of the file or of the proposal that is handed on
pub listing-refused : (f w d : List ℕ) (r : Answer) {q : Refusal} → check_fault f w ≡ Err q → IsErrAnd r (λ u. u ≡ q) → Listing f w d d r
listing-refused f w d r {q} h e = rw (handed e) (lists-refused q (rw h))

pub ruleset listed = (listing-refused, admitted-length)

-- ---- two results
-- where there is no fault, the lists are the same; a fault leaves nothing of them to tell
answered-one : (fault : Fault) {p w d e g : List ℕ} {r s : Answer} → ListsAnswered fault p w d e r → ListsAnswered fault p w d g s → (r ≡ s) × (e ≡ g)
answered-one (Ok tt) {d = d} {g = g} {s = s} h k =
    answers_one h.answers (subst (λ (x : List ℕ). Answers (Ok tt) x d g s) (lists-one (k.lists-are refl) (h.lists-are refl)) k.answers)
answered-one (Err q) h k =
    answers_one h.answers record { paper-is = k.answers.paper-is; count-is = k.answers.count-is; buffer-is = k.answers.buffer-is }

-- the theorem: of the same file, proposal and buffer the promise allows one answer, and one buffer behind it
pub listing-one : (f w d : List ℕ) {e g : List ℕ} {r s : Answer} → Listing f w d e r → Listing f w d g s → (r ≡ s) × (e ≡ g)
listing-one f w d h k = answered-one (lists_fault f w (length d)) h k
