-- What a plan leaves to a message of its deadline.
use Rattle.std.specs.Prelude.{ℕ, ◌+◌, ◌≡◌, List, Ok}
use Rattle.rules.specs.Problem.{lasts, deadline, Gives, column, row}
use Rattle.rules.specs.Tests.{wait, own_fault}
use Rattle.margins.specs.declared.Margin.{Margin}

-- m is what message j has at column c and base row r: wait, frame and slack come to the deadline
pub record Leaves (p : List ℕ) (j c r : ℕ) (m : Margin) : Type 0 where
  pub waits : m.wait ≡ wait p j c r
  pub takes : m.frame ≡ lasts p j
  pub left : m.wait + m.frame + m.slack ≡ deadline p j

-- nothing is left
pub record Nothing (m : Margin) : Type 0 where
  pub no-wait : m.wait ≡ 0
  pub no-slack : m.slack ≡ 0

-- the first where nothing is wrong with message j there by itself, the second elsewhere
pub record MarginAt (p : List ℕ) (j c r : ℕ) (m : Margin) : Type 0 where
  pub can : own_fault p j c r ≡ Ok tt → Leaves p j c r m
  pub cannot : ¬ (own_fault p j c r ≡ Ok tt) → Nothing m

-- the same where the proposal w places it, and the second if w has no words of it
pub record MarginOf (p w : List ℕ) (j : ℕ) (m : Margin) : Type 0 where
  pub given : Gives w j → MarginAt p j (column w j) (row w j) m
  pub missing : ¬ Gives w j → Nothing m
