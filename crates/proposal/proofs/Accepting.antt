-- A file and a proposal that are tested: what is refused, and what then stands in the buffer.
use Prim.Native.Nat.{ℕ}
use mathlib.Core.Path.{◌≡◌, sym, ◌∙◌}
use mathlib.Core.List.{List}
use lib.ListN.{length, take}
use lib.Seq.{length-take-le}
use Rattle.rules.specs.declared.Refusal.{Refusal}
use Rattle.rules.specs.Tests.{proposal_fault}
use Rattle.rules.proofs.Faults.{clear_both, handed}
use Rattle.problem.specs.File.{words_of}
use Rattle.problem.specs.Wrong.{file_fault}
use Rattle.problem.proofs.Wrong.{file-formed}
use Rattle.reader.specs.Promise.{Opened}
use Rattle.proposal.specs.Accepted.{check_fault, Accepted}
use Rattle.proposal.specs.Accept.{Admitted, Tested}
use Rattle.std.specs.Prelude.{Ok, Err, IsErrAnd}
use Rattle.rules.specs.Refusal.{Fault}
use Rattle.rules.specs.Paper.{Answer}

-- ---- a refusal that is handed on: the file's, and where it is read as a problem the proposal's
pub answered-file : (f w e : List ℕ) (r : Answer) {q : Refusal} → file_fault f ≡ Err q → IsErrAnd r (λ u. u ≡ q) → Tested f w e r
answered-file f w b r h e = rw (handed e) (rw h)

module _ (w : List ℕ) {f e : List ℕ} {n : ℕ} (opened : Opened f e n) {y : Fault} (tested : y ≡ proposal_fault (take n e) w) where
  found : check_fault f w ≡ y
  found = rw (opened.clear, ← opened.front) (sym tested)

  pub answered-proposal : (r : Answer) {q : Refusal} → y ≡ Err q → IsErrAnd r (λ u. u ≡ q) → Tested f w e r
  answered-proposal r h e = rw (handed e) (found ∙ h)

  -- what is wrong with neither is accepted
  pub admitted : y ≡ Ok tt → Admitted f w e n
  admitted h = record {
    clear = found ∙ h;
    within = opened.within;
    front = opened.front;
    accepted = record { formed = opened.formed; faultless = sym tested ∙ h };
  }

pub ruleset accepting = (answered-file, answered-proposal, admitted)

-- what has no fault is accepted
pub clear-accepted : (f w : List ℕ) → check_fault f w ≡ Ok tt → Accepted (words_of f) w
clear-accepted f w e = let parts = clear_both (file_fault f) (proposal_fault (words_of f) w) e in record { formed = file-formed f parts.0; faultless = parts.1 }

-- ---- what the calls make of it
pub admitted-length : {f w e : List ℕ} {n : ℕ} → Admitted f w e n → length (take n e) ≡ n
admitted-length {e = e} {n = n} a = length-take-le n e a.within
