-- What shows that an answer is handed over, and that two results which the promise of an exported call allows are equal.
use Prim.Native.Nat.{ℕ}
use mathlib.Core.Path.{◌≡◌, sym, ap, ◌∙◌}
use mathlib.Core.List.{List}
use Rattle.reader.specs.Promise.{Reading}
use Rattle.reader.proofs.Results.{read_one}
use Rattle.writer.specs.Promise.{Writing}
use Rattle.writer.proofs.Results.{write-one}
use Rattle.judge.specs.Promise.{Judging}
use Rattle.judge.proofs.Promise.{judging-one}
use Rattle.triggers.specs.Promise.{Listing}
use Rattle.triggers.proofs.Results.{listing-one}
use Rattle.bus_log.specs.Promise.{Holding, DueWritten}
use Rattle.bus_log.proofs.HeldLog.{holding-one}
use Rattle.bus_log.proofs.Results.{due-written-one}
use Rattle.planner.specs.Promise.{Planning, Replanning}
use Rattle.planner.proofs.Unique.{planning-one, replanning-one}
use Rattle.response.specs.Promise.{Responding}
use Rattle.response.proofs.Results.{responding-one}
use Rattle.versions.specs.Promise.{Raising, Lowering}
use Rattle.versions.proofs.Moving.{up_one, back_one}
use Rattle.ffynorwel.specs.Eight.{count_words, judged_words, held_words}
use Rattle.ffynorwel.specs.Handed.{Handed}

-- the call answered r, which is s, and the words of s were stored
pub handed : {A : Type 0} {P : A → Type 0} {words : A → List ℕ} {x : List ℕ} {r s : A} → P r → r ≡ s → x ≡ words s → Handed P words x
handed {words = words} {r = r} p is stored = record { answer = r; promised = p; stored = stored ∙ ap words (sym is) }

-- two promises that settle the answer settle its eight words
module _ {A : Type 0} {P Q : A → Type 0} {words : A → List ℕ} {x y : List ℕ} where
  handed-one : ((r s : A) → P r → Q s → r ≡ s) → Handed P words x → Handed Q words y → x ≡ y
  handed-one one a b = a.stored ∙ ap words (one _ _ a.promised b.promised) ∙ sym b.stored

-- and where they settle a buffer too
module _ {A B : Type 0} {P Q : A → Type 0} {words : A → List ℕ} {x y : List ℕ} where
  handed-both : ((r s : A) → P r → Q s → (r ≡ s) × B) → Handed P words x → Handed Q words y → (x ≡ y) × B
  handed-both both a b = (handed-one (λ r s p q. (both r s p q).0) a b, (both _ _ a.promised b.promised).1)

module _ (f d : List ℕ) {e g x y : List ℕ} where
  pub ffy-read-one : Handed (Reading f d e) count_words x → Handed (Reading f d g) count_words y → (x ≡ y) × (e ≡ g)
  ffy-read-one = handed-both (λ r s a b. read_one f d e g r s a b)

  pub ffy-write-one : Handed (Writing f d e) count_words x → Handed (Writing f d g) count_words y → (x ≡ y) × (e ≡ g)
  ffy-write-one = handed-both (λ r s a b. write-one f d e g r s a b)

  pub ffy-up-one : Handed (Raising f d e) count_words x → Handed (Raising f d g) count_words y → (x ≡ y) × (e ≡ g)
  ffy-up-one = handed-both (λ r s a b. up_one f a b)

  pub ffy-back-one : Handed (Lowering f d e) count_words x → Handed (Lowering f d g) count_words y → (x ≡ y) × (e ≡ g)
  ffy-back-one = handed-both (λ r s a b. back_one f a b)

  pub ffy-plan-one : Handed (Planning f d e) count_words x → Handed (Planning f d g) count_words y → (x ≡ y) × (e ≡ g)
  ffy-plan-one = handed-both (λ r s a b. planning-one a b)

  pub ffy-responses-one : Handed (Responding f d e) count_words x → Handed (Responding f d g) count_words y → (x ≡ y) × (e ≡ g)
  ffy-responses-one = handed-both (λ r s a b. responding-one a b)

module _ {f w x y : List ℕ} where
  pub ffy-judge-one : Handed (Judging f w) judged_words x → Handed (Judging f w) judged_words y → x ≡ y
  ffy-judge-one = handed-one (λ r s a b. judging-one a b)

module _ (f w d : List ℕ) {e g x y : List ℕ} where
  pub ffy-lists-one : Handed (Listing f w d e) count_words x → Handed (Listing f w d g) count_words y → (x ≡ y) × (e ≡ g)
  ffy-lists-one = handed-both (λ r s a b. listing-one f w d a b)

  pub ffy-replan-one : Handed (Replanning f w d e) count_words x → Handed (Replanning f w d g) count_words y → (x ≡ y) × (e ≡ g)
  ffy-replan-one = handed-both (λ r s a b. replanning-one a b)

module _ (f w log : List ℕ) (span : ℕ) {x y : List ℕ} where
  pub ffy-hold-one : Handed (Holding f w log span) held_words x → Handed (Holding f w log span) held_words y → x ≡ y
  ffy-hold-one = handed-one (λ r s a b. holding-one f w log span a b)

module _ (f w : List ℕ) (span : ℕ) (d : List ℕ) {e g x y : List ℕ} where
  pub ffy-due-one : Handed (DueWritten f w span d e) count_words x → Handed (DueWritten f w span d g) count_words y → (x ≡ y) × (e ≡ g)
  ffy-due-one = handed-both (λ r s a b. due-written-one f w span d a b)
