-- The words that callers give and are given: as a problem's, but version 1 has no kinds.
use Rattle.std.specs.Prelude.{ℕ, ◌+◌, ◌*◌, cond, List, ◌++◌, eqb, length, drop}
use Rattle.basics.specs.Runs.{run, piece, front}
use Rattle.rules.specs.Problem.{header_words, columns, messages}
use Rattle.problem.specs.declared.layout.Layout.{Layout}
use Rattle.problem.specs.declared.layout.Layout.TheVariants.{One, Two}
use Rattle.problem.specs.File.{layout_in, words_of}

-- how many words a column has: start and width, in version 2 the kind
abbrev pub column_words : Layout → ℕ
column_words One = 2
column_words Two = 3

-- so many words are k columns, of n each, and m messages
abbrev pub said_for : ℕ → ℕ → ℕ → ℕ
said_for n k m = header_words + n * k + 7 * m

-- words with a for each column, made words with b: a kind that is not said is 0
unfoldable pub recast : ℕ → ℕ → List ℕ → List ℕ
recast a b w = front header_words w ++ run (columns w) (λ c. front b (piece a c (drop header_words w))) ++ drop (header_words + a * columns w) w

-- a problem as callers see it, and the problem that a caller's words are
abbrev pub narrow : Layout → List ℕ → List ℕ
narrow L p = recast 3 (column_words L) p

abbrev pub widen : Layout → List ℕ → List ℕ
widen L w = recast (column_words L) 3 w

-- what a file is read as
abbrev pub said_of : List ℕ → List ℕ
said_of f = narrow (layout_in f) (words_of f)

-- ---- what is to be written: the count tells the version
abbrev pub said_count : Layout → List ℕ → ℕ
said_count L w = said_for (column_words L) (columns w) (messages w)

abbrev pub layout_by : List ℕ → Layout
layout_by w = cond (eqb (length w) (said_count One w)) One Two

abbrev pub problem_of : List ℕ → List ℕ
problem_of w = widen (layout_by w) w
