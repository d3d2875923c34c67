-- What is wrong with a file and a proposal for it, and what is accepted: a well-formed problem and a proposal without a fault.
use Rattle.std.specs.Prelude.{ℕ, ◌≡◌, List, Ok}
use Rattle.rules.specs.Problem.{WellFormed}
use Rattle.rules.specs.Refusal.{◌⊕◌, Fault}
use Rattle.rules.specs.Tests.{proposal_fault}
use Rattle.problem.specs.File.{words_of}
use Rattle.problem.specs.Wrong.{file_fault}

-- what is wrong with the file, else with the proposal: 9, then the first message with a fault and its lowest number
abbrev pub check_fault : List ℕ → List ℕ → Fault
check_fault f w = file_fault f ⊕ proposal_fault (words_of f) w

pub record Accepted (p w : List ℕ) : Type 0 where
  pub formed : WellFormed p
  pub faultless : proposal_fault p w ≡ Ok tt
