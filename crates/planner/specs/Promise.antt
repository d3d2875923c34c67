-- What the planner promises: demand 3 as a call, and the same with placements to keep. It speaks of sends, by way of what a plan is, and of no search.
use Rattle.std.specs.Prelude.{ℕ, ◌≡◌, List, [], ltb, length, Err, Ok}
use Rattle.rules.specs.declared.Refusal.{Refusal}
use Rattle.rules.specs.declared.Refusal.TheVariants.{NoPlan, TooMany}
use Rattle.rules.specs.Paper.{Answers, room_fault, Answer}
use Rattle.rules.specs.Problem.{messages, proposal_words}
use Rattle.rules.specs.Refusal.{guard, ◌⊕◌, Fault}
use Rattle.problem.specs.File.{words_of}
use Rattle.problem.specs.Wrong.{file_fault}
use Rattle.proposal.specs.Partial.{kept_fault}
use Rattle.places.specs.Places.{most_planned}
use Rattle.rest.specs.Free.{free_of}
use Rattle.planner.specs.Least.{Plan, LeastOf, PlanKeeping}

-- more messages than are planned, and then a buffer too short for a proposal
abbrev pub unready : List ℕ → List ℕ → Fault
unready p d = guard (ltb most_planned (messages p)) TooMany ⊕ room_fault (proposal_words p) (length d)

-- what is answered where a proposal of A, for n messages, is sought and x is what is wrong before: 14 if there is none, and else the least
pub data Chosen (A : List ℕ → Type 0) (n : ℕ) (x : Fault) (d e : List ℕ) (r : Answer) : Type 0 where
  refused : (q : Refusal) → x ≡ Err q → Answers (Err q) [] d e r → Chosen A n x d e r
  none : x ≡ Ok tt → ((w : List ℕ) → A w → ⊥) → Answers (Err NoPlan) [] d e r → Chosen A n x d e r
  planned : x ≡ Ok tt → (w : List ℕ) → LeastOf A n w → Answers (Ok tt) w d e r → Chosen A n x d e r

-- what the problem p is answered with, where x is what is wrong before a plan is sought: 14 if there is no plan, and else the least
abbrev pub Answered : Fault → List ℕ → List ℕ → List ℕ → Answer → Type 0
Answered x p = Chosen (Plan p) (messages p) x

-- the file f is answered with r, and the buffer d then is e
pub record Planning (f d e : List ℕ) (r : Answer) : Type 0 where
  pub answered : Answered (file_fault f ⊕ unready (words_of f) d) (words_of f) d e r

-- ---- planning again, with placements k to keep
-- what is wrong with them, then more messages without one than are planned, and then a buffer too short for a proposal
abbrev pub unready_again : List ℕ → List ℕ → List ℕ → Fault
unready_again p k d = kept_fault p k ⊕ guard (ltb most_planned (free_of k (messages p))) TooMany ⊕ room_fault (proposal_words p) (length d)

-- 14 if no plan keeps them, and else the least that does
abbrev pub AnsweredAgain : Fault → List ℕ → List ℕ → List ℕ → List ℕ → Answer → Type 0
AnsweredAgain x p k = Chosen (PlanKeeping p k) (messages p) x

-- the file f and the placements k are answered with r, and the buffer d then is e
pub record Replanning (f k d e : List ℕ) (r : Answer) : Type 0 where
  pub answered : AnsweredAgain (file_fault f ⊕ unready_again (words_of f) k d) (words_of f) k d e r
