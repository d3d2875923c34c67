-- The columns that are set in none of some rows, row by row.
use Rattle.std.proofs.Common.{ℕ, suc, ◌+◌, ◌*◌, ◌-◌, ◌^◌, ◌≤◌, ◌<◌, ◌≡◌, ap, subst, List, ⊎_elim, arith, bit_and, get_or}
use Rattle.basics.specs.Bits.{Has}
use Rattle.basics.proofs.Bits.{bit_not, bit-two, and_both, and_left, and_right}
use Rattle.basics.proofs.Tests.{below_or}
use Rattle.rules.specs.Problem.{most_columns}
use Rattle.row_words.proofs.Turns.{one-turn}
use Rattle.row_words.specs.RowWords.{SetBefore, Without, FreeIn}

-- ---- a word without the digits of another
pub without_is : (x y : ℕ) → y < 4294967296 → Without x y (bit_and x (2 ^ 32 - 1 - y))
without_is x y word = record {
  keeps = λ c l h n. and_both x (2 ^ 32 - 1 - y) c h (let b = bit-two y c in omega (arith, bit_not 32 y c word l, n));
  only = and_left x (2 ^ 32 - 1 - y);
  gone = λ c l h g. omega (arith, bit_not 32 y c word l, and_right x (2 ^ 32 - 1 - y) c h, g);
}

-- ---- y has the columns of x that are set in none of the rows before i, which is the next
pub record Freeing (t : List ℕ) (r step rows x i y : ℕ) : Type 0 where
  pub turn : ℕ
  pub now-at : i ≡ r + turn * step
  pub keeps : (c : ℕ) → c < most_columns → Has x c → (SetBefore t c r step rows → ⊥) → Has y c
  pub only : (c : ℕ) → Has y c → Has x c
  pub unset : (k c : ℕ) → c < most_columns → r + k * step < i → Has y c → Has (get_or t (r + k * step) 0) c → ⊥

module _ {t : List ℕ} {r step rows x i y : ℕ} (f : Freeing t r step rows x i y) (some : 1 ≤ step) where
  pub freeing-more : {z next : ℕ} → i < rows → Without y (get_or t i 0) z → next ≡ i + step → Freeing t r step rows x next z
  freeing-more {z} {next} li w en =
      let at = f.now-at in
      record {
        turn = suc f.turn;
        now-at = omega arith;
        keeps = λ c l h n. w.keeps c l (f.keeps c l h n) (λ g. n record { turn = f.turn; low = omega arith; set = subst (λ (k : ℕ). Has (get_or t k 0) c) at g });
        only = λ c h. f.only c (w.only c h);
        unset = λ k c l u h g. ⊎_elim
            (λ e. f.unset k c l e (w.only c h) g)
            (λ e.
            let here : r + k * step ≡ i = omega (arith, ap (◌* step) (one-turn r step f.turn k f.now-at e (omega arith))) in
            w.gone c l h (subst (λ (k : ℕ). Has (get_or t k 0) c) here g))
            (below_or (r + k * step) i);
      }

  pub freeing-all : rows ≤ i → FreeIn t r step rows x y
  freeing-all h = record { keeps = f.keeps; only = f.only; unset = λ c l g b. f.unset b.turn c l (omega (arith, b.low)) g b.set }
