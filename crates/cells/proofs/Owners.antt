-- What the number of a cell says of the messages: 0 that none starts there, and any other which one does.
use Prim.Native.Nat.{ℕ, suc, ◌≤◌, ◌<◌}
use mathlib.Core.Path.{◌≡◌, refl}
use mathlib.Core.Bool.{Bool, true, false}
use mathlib.Core.List.{List}
use native.Mathlib.Omega.{arith}
use Rattle.basics.specs.Tests.{some}
use Rattle.basics.proofs.Tests.{not-both, some_at, some-none}
use Rattle.rules.specs.Cells.{Here}
use Rattle.rules.specs.Problem.{rows, columns, messages}
use Rattle.proposal.specs.Accepted.{Accepted}
use Rattle.cells.specs.Cells.{starts_at}
use Rattle.cells.specs.Table.{number_in, starting, Table}
use Rattle.cells.proofs.Starts.{starts-here, here-starts, one-term, no-term}

-- no message holds the cell of row i and column c, which then has number 0, or message j does, and its number is j + 1
pub data Holder (p w : List ℕ) (i c : ℕ) : ℕ → Type 0 where
  free : ((j : ℕ) → j < messages p → ¬ Here p w j i c) → Holder p w i c 0
  by : (j : ℕ) → j < messages p → Here p w j i c → Holder p w i c (suc j)

-- so it is the number of a message, if any
pub number-most : {p w : List ℕ} {i c x : ℕ} → Holder p w i c x → x ≤ messages p
number-most (free h) = omega arith
number-most (by j l h) = l

module _ {p w : List ℕ} (a : Accepted p w) where
  -- the law: so it is with the number of each cell
  pub starting-holder : (i c : ℕ) → i < rows p → c < columns p → Holder p w i c (starting p w (messages p) i c)
  unfolding starting
  starting-holder i c li lc = go (some (messages p) (λ j. starts_at p w j i c)) refl
    where
      go : (b : Bool) → some (messages p) (λ j. starts_at p w j i c) ≡ b → Holder p w i c (starting p w (messages p) i c)
      go false e =
          let none = some-none (messages p) (λ j. starts_at p w j i c) e in
          rw (no-term a i c (messages p) suc lc (omega arith) none) (free (λ j l h. not-both (here-starts a j i c l li h) (none j l)))
      go true e =
          let j = some_at (messages p) (λ j. starts_at p w j i c) e in
          rw (one-term a i c (messages p) suc lc (omega arith) j.0 j.1 j.2) (by j.0 j.1 (starts-here a j.0 i c j.1 lc j.2))

  -- and with what the full table says of it
  pub holder : {t : List ℕ} → Table p w (messages p) t → (i c : ℕ) → i < rows p → c < columns p → Holder p w i c (number_in t i c)
  holder b i c li lc = rw (b.each i c li lc) (starting-holder i c li lc)
