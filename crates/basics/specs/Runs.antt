-- Lists put one behind the other, a list parted into pieces of one length, and words put at the front of a buffer.
use Rattle.std.specs.Prelude.{ℕ, zero, suc, ◌*◌, List, [], ◌∷◌, ◌++◌, ◌≡◌, length, get_or, take, drop}

-- g 0, g 1, .., g (n - 1), one behind the other
unfoldable pub run : {A : Type 0} → ℕ → (ℕ → List A) → List A
run zero g = []
run (suc n) g = run n g ++ g n

-- piece j of a list whose pieces have k elements each
abbrev pub piece : ℕ → ℕ → List ℕ → List ℕ
piece k j l = take k (drop (k * j) l)

-- g 0, g 1, .., g (n - 1)
abbrev pub tab : (ℕ → ℕ) → ℕ → List ℕ
tab g zero = []
tab g (suc n) = g zero ∷ tab (λ i. g (suc i)) n

-- the first n elements of a list, and 0 for each that it does not have
abbrev pub front : ℕ → List ℕ → List ℕ
front n l = tab (λ i. get_or l i 0) n

-- the words x stand at the front of the buffer d, which then is e; they are r
pub record Put (x d e : List ℕ) (r : ℕ) : Type 0 where
  pub count : r ≡ length x
  pub is : e ≡ x ++ drop r d

-- the first n pieces of l, of a each, are turned by F into b each, and stand so in front of what d held: that is x
pub record Turned (F : List ℕ → List ℕ) (a b : ℕ) (l d : List ℕ) (n : ℕ) (x : List ℕ) : Type 0 where
  pub long : length x ≡ length d
  pub is : x ≡ run n (λ i. F (piece a i l)) ++ drop (b * n) d
