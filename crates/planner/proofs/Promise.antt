-- What shows the planner's promises, answer by answer: each law says in which state of the tests it is given.
use Prim.Native.Nat.{ℕ, ◌<◌, ◌≤◌}
use mathlib.Core.Path.{◌≡◌, refl, sym}
use mathlib.Core.List.{List, ◌++◌}
use borrow.Author.Tests.{lt-ltb, le-ltb, ltb-false}
use lib.Dec.{ltb}
use lib.ListN.{length, take, drop}
use lib.Seq.{length-take-le}
use Rattle.rules.specs.declared.Refusal.{Refusal}
use Rattle.rules.specs.declared.Refusal.TheVariants.{NoPlan, TooMany}
use Rattle.rules.specs.Paper.{Answer}
use Rattle.rules.specs.Refusal.{guard, ◌⊕◌, Fault}
use Rattle.rules.proofs.Faults.{clear-guard, handed}
use Rattle.rules.proofs.Told.{answers-refused}
use Rattle.problem.specs.Wrong.{file_fault}
use Rattle.reader.specs.Promise.{Opened}
use Rattle.places.specs.Places.{most_planned}
use Rattle.planner.specs.Least.{LeastOf}
use Rattle.planner.specs.Promise.{Chosen, refused, none, planned, unready, Answered, Planning, unready_again, AnsweredAgain, Replanning}
use Rattle.std.specs.Prelude.{Err, IsErrAnd, Ok}

-- ---- what the tests of a number of messages say
pub too_many : (n : ℕ) {q : Refusal} → (q ≡ TooMany) × (most_planned < n) → guard (ltb most_planned n) TooMany ≡ Err q
too_many n h = rw (lt-ltb most_planned n h.1, h.0) refl

pub few_enough : {n : ℕ} → n ≤ most_planned → guard (ltb most_planned n) TooMany ≡ Ok tt
few_enough {n} h = rw (le-ltb most_planned n h) refl

pub few-tested : (n : ℕ) → guard (ltb most_planned n) TooMany ≡ Ok tt → n ≤ most_planned
few-tested n e = ltb-false most_planned n (clear-guard _ _ e)

module _ {A : List ℕ → Type 0} {n : ℕ} {d : List ℕ} where
  -- ---- the first test, or the next once it finds nothing
  pub first-refused : {x : Fault} (y : Fault) (r : Answer) {q : Refusal} → x ≡ Err q → IsErrAnd r (λ u. u ≡ q) → Chosen A n (x ⊕ y) d d r
  first-refused y r {q} h e = rw (handed e, h) (refused q refl (answers-refused q refl))

  pub last-refused : {x : Fault} (r : Answer) {q : Refusal} → x ≡ Err q → IsErrAnd r (λ u. u ≡ q) → Chosen A n x d d r
  last-refused r {q} h e = rw (handed e, h) (refused q refl (answers-refused q refl))

  pub first-clear : {x : Fault} {y : Fault} {e : List ℕ} {r : Answer} → x ≡ Ok tt → Chosen A n y d e r → Chosen A n (x ⊕ y) d e r
  first-clear c a = rw c a

  -- ---- where no test finds anything
  pub not_found : {x : Fault} → x ≡ Ok tt → ((w : List ℕ) → A w → ⊥) → Chosen A n x d d (Err NoPlan)
  not_found c none-there = none c none-there (answers-refused NoPlan refl)

  pub is_found : {x : Fault} (u : List ℕ) {e : List ℕ} {k : ℕ} → x ≡ Ok tt → LeastOf A n (take k u) → k ≤ length u → e ≡ take k u ++ drop (length (take k u)) d → Chosen A n x d e (Ok k)
  is_found u {k = k} c L long h = planned c (take k u) L (record { paper-is = refl; count-is = sym (length-take-le k u long); buffer-is = h })

-- ---- the file
pub not-read : (f d : List ℕ) (r : Answer) {q : Refusal} → file_fault f ≡ Err q → IsErrAnd r (λ u. u ≡ q) → Planning f d d r
not-read f d r h e = record { answered = first-refused _ r h e }

pub is_read : {f b d : List ℕ} {n : ℕ} {e : List ℕ} {r : Answer} → Opened f b n → Answered (unready (take n b) d) (take n b) d e r → Planning f d e r
is_read o a = record { answered = first-clear o.clear (rw o.front at a) }

-- with placements k to keep
pub not-read-again : (f k d : List ℕ) (r : Answer) {q : Refusal} → file_fault f ≡ Err q → IsErrAnd r (λ u. u ≡ q) → Replanning f k d d r
not-read-again f k d r h e = record { answered = first-refused _ r h e }

pub is-read-again : {f b k d : List ℕ} {n : ℕ} {e : List ℕ} {r : Answer} → Opened f b n → AnsweredAgain (unready_again (take n b) k d) (take n b) k d e r → Replanning f k d e r
is-read-again o a = record { answered = first-clear o.clear (rw o.front at a) }
