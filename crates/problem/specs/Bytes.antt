-- Numbers as bytes, big-endian, and bytes as numbers.
use Rattle.std.specs.Prelude.{ℕ, ◌+◌, ◌*◌, ◌/◌, ◌%◌, List, get_or}

-- the number that the two bytes at i are, and that the four bytes are
abbrev pub two : List ℕ → ℕ → ℕ
two l i = get_or l i 0 * 256 + get_or l (i + 1) 0

abbrev pub four : List ℕ → ℕ → ℕ
four l i = two l i * 65536 + two l (i + 2)

-- the bytes of a number, from its last on
abbrev pub low : ℕ → ℕ
low x = x % 256

abbrev pub high : ℕ → ℕ
high x = x / 256 % 256

abbrev pub third : ℕ → ℕ
third x = low (x / 65536)

abbrev pub top : ℕ → ℕ
top x = high (x / 65536)
