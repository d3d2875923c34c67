-- What a plan w of a problem o has for the messages of another problem, by their identifiers.
use Rattle.std.specs.Prelude.{ℕ, ◌<◌, ◌≡◌, List}
use Rattle.rules.specs.Problem.{messages, identifier, Gives, column, row}
use Rattle.kept.specs.Kept.{none}

-- i is the first message of o that has the identifier x
pub record First (o : List ℕ) (x i : ℕ) : Type 0 where
  pub among : i < messages o
  pub has : identifier o i ≡ x
  pub before : (h : ℕ) → h < i → ¬ (identifier o h ≡ x)

-- no message of o has the identifier x
abbrev pub Unknown : List ℕ → ℕ → Type 0
Unknown o x = (i : ℕ) → i < messages o → ¬ (identifier o i ≡ x)

-- c and r are the column and the base row that w has for the message of o with the identifier x; none if there is no such message
pub record Carries (o w : List ℕ) (x c r : ℕ) : Type 0 where
  pub column-kept : (i : ℕ) → i < messages o → identifier o i ≡ x → Gives w i → c ≡ column w i
  pub row_kept : (i : ℕ) → i < messages o → identifier o i ≡ x → Gives w i → r ≡ row w i
  pub column-none : Unknown o x → c ≡ none
  pub row-none : Unknown o x → r ≡ none

-- the list k has that for each of the first n messages of p
pub record Carried (p o w k : List ℕ) (n : ℕ) : Type 0 where
  pub each : (j : ℕ) → j < n → Carries o w (identifier p j) (column k j) (row k j)
