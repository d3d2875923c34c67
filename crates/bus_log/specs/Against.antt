-- A log held against the words that are due: it is clean, or there is a first pair that differs.
use Rattle.std.specs.Prelude.{ℕ, ◌*◌, ◌≡◌, List, [], ◌∷◌, take, Option, None, Some, Result, Ok}
use Rattle.basics.specs.Runs.{piece}
use Rattle.rules.specs.declared.Refusal.{Refusal}
use Rattle.bus_log.specs.declared.Difference.{Difference}

-- what is answered: nothing for a log that is clean, the first difference, or why the log is not held against the plan
abbrev pub Held : Type 0
Held = Result (Option Difference) Refusal

-- pair i of a list of words, and none behind its end
abbrev pub pair_at : List ℕ → ℕ → List ℕ
pair_at l i = piece 2 i l

-- where nothing was due
abbrev pub nothing : ℕ
nothing = 4294967295

abbrev pub or_nothing : List ℕ → List ℕ
or_nothing [] = nothing ∷ nothing ∷ []
or_nothing (x ∷ l) = x ∷ l

-- x is due and the log differs: the pairs before the index are equal, those at the index are not, be it that one side has ended, and what was due there is told
pub record Differing (x log : List ℕ) (d : Difference) : Type 0 where
  pub agreed : take (2 * d.index) log ≡ take (2 * d.index) x
  pub unlike : ¬ (pair_at log d.index ≡ pair_at x d.index)
  pub due : d.time ∷ d.identifier ∷ [] ≡ or_nothing (pair_at x d.index)

-- the answer where nothing is refused
pub data Against (x log : List ℕ) : Held → Type 0 where
  clean : log ≡ x → Against x log (Ok None)
  differs : (d : Difference) → Differing x log d → Against x log (Ok (Some d))
