-- What is wrong with placements to keep: only the messages that the list keeps are tested, among themselves.
use Rattle.std.specs.Prelude.{ℕ, ◌≡◌, Bool, true, false, not, List, eqb, length, Ok}
use Rattle.rules.specs.declared.Refusal.TheVariants.{ProposalLength}
use Rattle.rules.specs.Problem.{messages, proposal_words}
use Rattle.rules.specs.Refusal.{guard, ◌⊕◌, first_fault, Fault}
use Rattle.rules.specs.Tests.{fault}
use Rattle.kept.specs.Kept.{keeps}
use Rattle.row_words.specs.RowWords.{RowWords}

-- the fault of a message that is tested
abbrev pub tested : Bool → Fault → Fault
tested true f = f
tested false f = Ok tt

-- of a list that may leave messages out only those that it keeps are looked at
abbrev pub looked : Bool → List ℕ → ℕ → Bool
looked true w j = keeps w j
looked false w j = true

-- the fault that a test of the list w finds with message j
unfoldable pub fault_in : Bool → List ℕ → List ℕ → ℕ → Fault
fault_in partial p w j = tested (looked partial w j) (fault p w j)

-- another length is 9; then the first kept message with a fault. A message that is not kept meets nobody, since its column is no column
unfoldable pub kept_fault : List ℕ → List ℕ → Fault
kept_fault p k = guard (not (eqb (length k) (proposal_words p))) ProposalLength ⊕ first_fault (messages p) (fault_in true p k)

-- f is the fault g that a test of w is to find, and where there is none the words t say which cells its messages have
pub record Walked (g : Fault) (p w t : List ℕ) (f : Fault) : Type 0 where
  pub is : f ≡ g
  pub words : f ≡ Ok tt → RowWords p w (messages p) t

-- placements k to keep are tested, and the words t are handed to the caller, who plans the other messages around them
abbrev pub KeptTested : List ℕ → List ℕ → List ℕ → Fault → Type 0
KeptTested p k = Walked (kept_fault p k) p k
