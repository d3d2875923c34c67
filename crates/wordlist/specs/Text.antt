-- What a text of digits says, and what the functions that read a word list hand back.
use Rattle.std.specs.Prelude.{ℕ, zero, suc, ◌+◌, ◌*◌, ◌-◌, ◌<◌, ◌≤◌, ◌≡◌, cond, ◌⊎◌, Option, IfSome, Result, MatchResult, List, ltb, length, take, drop, get_or}
use Rattle.wordlist.specs.declared.Piece.{Piece}
use Rattle.wordlist.specs.declared.Stop.{Stop}

-- ---- numbers
-- the value of a byte as a digit: 0 to 9, A to F, a to f; 16 for any other
unfoldable pub digit : ℕ → ℕ
digit b =
    cond (ltb b 48) 16
    (cond (ltb b 58) (b - 48)
    (cond (ltb b 65) 16
    (cond (ltb b 71) (b - 55)
    (cond (ltb b 97) 16
    (cond (ltb b 103) (b - 87) 16)))))

-- the number that the first n bytes of s write as digits of base b
unfoldable pub value : ℕ → List ℕ → ℕ → ℕ
value b s zero = 0
value b s (suc n) = value b s n * b + digit (get_or s n 0)

-- the first n bytes of s are digits of base b, and write r
pub record Writes (b : ℕ) (s : List ℕ) (n r : ℕ) : Type 0 where
  pub digits : (k : ℕ) → k < n → digit (get_or s k 0) < b
  pub is : r ≡ value b s n

-- if r is a number, the digits s of base b write it
abbrev pub InBase : ℕ → List ℕ → Option ℕ → Type 0
InBase b s r = IfSome r (Writes b s (length s))

-- 0x stands before the rest of s, which is not empty
pub record Prefixed (s : List ℕ) : Type 0 where
  pub zero-first : get_or s 0 0 ≡ 48
  pub x-second : get_or s 1 0 ≡ 120
  pub more : 2 < length s

-- the rest behind 0x writes r in hexadecimal
pub record Hexadecimal (s : List ℕ) (r : Option ℕ) : Type 0 where
  pub front : Prefixed s
  pub rest : InBase 16 (drop 2 s) r

-- the word s writes r, if r is a number: in hexadecimal behind 0x, or in decimal
abbrev pub Numeral : List ℕ → Option ℕ → Type 0
Numeral s r = Hexadecimal s r ⊎ InBase 10 s r

-- ---- places in a text
pub record Next (s : List ℕ) (from r : ℕ) : Type 0 where
  pub least : from ≤ r
  pub most : r ≤ length s

pub record Ended (s : List ℕ) (from r : ℕ) : Type 0 where
  pub least : from < r
  pub most : r ≤ length s

-- the piece is a word of the text s that begins at a place or behind it, and has a byte at least
pub record WordFrom (s : List ℕ) (at : ℕ) (p : Piece) : Type 0 where
  pub behind : at ≤ p.from
  pub least : p.from < p.to
  pub most : p.to ≤ length s

-- n words of the buffer e were taken from the text s, up to the place `at` (each equation follows from the bound before it)
pub record Taken (s e : List ℕ) (n at : ℕ) : Type 0 where
  pub within : n ≤ length e
  pub front : n ≡ length (take n e)
  pub stopped : at ≤ length s
  pub passed : at ≡ length (take at s)

-- all words of the text s were taken into the buffer e, or those before the word at which the reading stopped
abbrev pub Parses : List ℕ → List ℕ → Result ℕ Stop → Type 0
Parses s e r = MatchResult r (λ n. Taken s e n (length s)) (λ stop. Taken s e stop.count stop.at × (stop.at < length s))
