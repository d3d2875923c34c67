-- The words of a problem in which a rule is broken behind the header.
use Rattle.std.specs.Prelude.{ℕ, List}
use Rattle.rules.specs.Problem.{columns, messages}
use Rattle.problem.specs.Parts.{Counted}

-- p has as many words as its header says
abbrev pub AsSaid : List ℕ → Type 0
AsSaid p = Counted p (columns p) (messages p)
