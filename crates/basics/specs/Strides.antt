-- Words of a list changed every so many places, and no others.
use Rattle.std.specs.Prelude.{ℕ, ◌+◌, ◌*◌, ◌<◌, ◌≡◌, List, length, get_or}

-- for each i of r, r + step, r + 2 · step, .. below n, the word of t at the place of i and that of t' are as R says; all other words are the same
pub record Strode (R : ℕ → ℕ → Type 0) (place : ℕ → ℕ) (r step n : ℕ) (t t' : List ℕ) : Type 0 where
  pub long : length t' ≡ length t
  pub here : (k : ℕ) → r + k * step < n → R (get_or t (place (r + k * step)) 0) (get_or t' (place (r + k * step)) 0)
  pub elsewhere : (m : ℕ) → ((k : ℕ) → r + k * step < n → ¬ (m ≡ place (r + k * step))) → get_or t' m 0 ≡ get_or t m 0
