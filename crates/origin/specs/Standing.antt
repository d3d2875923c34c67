-- Where a word of a problem stands in a text that has the problem's words, a column's and a message's each as one record.
use Rattle.std.specs.Prelude.{ℕ, ◌+◌, ◌*◌, ◌<◌}
use Rattle.origin.specs.declared.Word.{Word}
use Rattle.origin.specs.declared.Word.TheVariants.{Header, Column, Message}

-- a record has the word: no record has more than seven
abbrev pub HasWord : Word → Type 0
HasWord (Header k) = k < 7
HasWord (Column c i) = i < 3
HasWord (Message j i) = i < 7

-- how many words stand before a word, where a column has so many and there are so many columns
abbrev pub words_before : ℕ → ℕ → Word → ℕ
words_before size columns (Header k) = k
words_before size columns (Column c i) = 7 + size * c + i
words_before size columns (Message j i) = 7 + size * columns + 7 * j + i
