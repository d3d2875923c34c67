-- What is wrong with a file, with the words of a caller, and with a problem that a version is to hold: the first refusal in document 01's order.
use Rattle.std.specs.Prelude.{ℕ, Bool, ◌&&◌, not, List, ◌≡◌, ltb, eqb, length, get_or, Ok}
use Rattle.rules.specs.declared.Refusal.TheVariants.{Length, Mark, Version, Header, Unheld}
use Rattle.rules.specs.Offsets.{last_byte}
use Rattle.rules.specs.Problem.{header_words, columns, messages, kind, identifier}
use Rattle.rules.specs.Refusal.{guard, ◌⊕◌, first_fault, Fault}
use Rattle.rules.specs.Rules.{header_fault, words_fault}
use Rattle.problem.specs.declared.layout.Layout.{Layout}
use Rattle.problem.specs.Layout.{is_version, kind_most, identifier_most}
use Rattle.problem.specs.File.{head_bytes, version_in, layout_in, words_of, byte_count}
use Rattle.problem.specs.Callers.{said_count, layout_by, problem_of}

-- ---- with a file
-- it starts with the letters TSM
abbrev pub marked : List ℕ → Bool
marked f = eqb (get_or f 0 0) 84 && eqb (get_or f 1 0) 83 && eqb (get_or f 2 0) 77

unfoldable pub head_fault : List ℕ → Fault
head_fault f =
    guard (ltb (length f) head_bytes) Length
    ⊕ guard (not (marked f)) Mark
    ⊕ guard (not (is_version (version_in f))) Version
    ⊕ header_fault (words_of f)
    ⊕ guard (not (eqb (get_or f last_byte 0) 0)) (Header last_byte)
    ⊕ guard (not (eqb (length f) (byte_count (layout_in f) (words_of f)))) Length

unfoldable pub file_fault : List ℕ → Fault
file_fault f = head_fault f ⊕ words_fault (words_of f)

-- the file f reads as the problem p
pub record Reads (f p : List ℕ) : Type 0 where
  pub clear : file_fault f ≡ Ok tt
  pub words : words_of f ≡ p

-- ---- with the words that a writer is given
unfoldable pub count_fault : List ℕ → Fault
count_fault w =
    guard (ltb (length w) header_words) Length
    ⊕ header_fault w
    ⊕ guard (not (eqb (length w) (said_count (layout_by w) w))) Length

unfoldable pub problem_fault : List ℕ → Fault
problem_fault w = count_fault w ⊕ words_fault (problem_of w)

-- ---- with a problem that layout L is to hold: the first column, else the first message, that it has no room for
abbrev pub column_unheld : Layout → List ℕ → ℕ → Fault
column_unheld L p c = guard (ltb (kind_most L) (kind p c)) (Unheld c)

abbrev pub message_unheld : Layout → List ℕ → ℕ → Fault
message_unheld L p j = guard (ltb (identifier_most L) (identifier p j)) (Unheld j)

unfoldable pub held_fault : Layout → List ℕ → Fault
held_fault L p = first_fault (columns p) (column_unheld L p) ⊕ first_fault (messages p) (message_unheld L p)
