-- What is asked of words that are tested, written or given out: that they are as many as their header says.
use Rattle.std.specs.Prelude.{ℕ, ◌≤◌, ◌≡◌, List, length}
use Rattle.rules.specs.Problem.{words_for, columns, messages}
use Rattle.problem.specs.Callers.{said_for}

-- p has the words of k columns and m messages, as its header says
pub record Counted (p : List ℕ) (k m : ℕ) : Type 0 where
  pub columns-are : k ≡ columns p
  pub messages-are : m ≡ messages p
  pub words : length p ≡ words_for k m
  pub columns-most : k ≤ 32
  pub messages-most : m ≤ 64

-- the words w of a caller have n for each of k columns, and m messages, as their header says
pub record Said (w : List ℕ) (n k m : ℕ) : Type 0 where
  pub columns-are : k ≡ columns w
  pub words : length w ≡ said_for n k m
  pub least : 2 ≤ n
  pub most : n ≤ 3
  pub columns-most : k ≤ 32
  pub messages-most : m ≤ 64
