-- The problem file: the words of a file's bytes, and the bytes of a problem's words in each version.
use Rattle.std.specs.Prelude.{ℕ, ◌+◌, ◌*◌, ◌≤◌, ◌<◌, List, [], ◌∷◌, ◌++◌, get_or, drop}
use Rattle.basics.specs.Runs.{run, piece}
use Rattle.rules.specs.Offsets.{rows_byte, cycle_byte, ref_len_byte, ref_id_byte, limit_byte, columns_byte, messages_byte}
use Rattle.rules.specs.Problem.{header_words, column_at, rows, cycle, ref_len, ref_id, limit, columns, messages, kind, identifier}
use Rattle.problem.specs.declared.layout.Layout.{Layout}
use Rattle.problem.specs.Bytes.{two, low, high}
use Rattle.problem.specs.Layout.{version, layout_of, kind_most, identifier_most, column_size, column_of, column_bytes, message_size, message_of, message_bytes}

-- ---- how long it is
-- the records stand behind a header of 16 bytes: the columns', then, behind k columns, the messages'
abbrev pub head_bytes : ℕ
head_bytes = 16

abbrev pub column_byte : Layout → ℕ → ℕ
column_byte L c = head_bytes + column_size L * c

-- how many bytes the file of k columns and m messages has
abbrev pub bytes_for : Layout → ℕ → ℕ → ℕ
bytes_for L k m = column_byte L k + message_size L * m

-- ---- from bytes to words
-- rows, cycle, reference window, reference identifier, trigger limit, columns, messages
abbrev pub header_of : List ℕ → List ℕ
header_of f =
    get_or f rows_byte 0 ∷ two f cycle_byte ∷ two f ref_len_byte ∷ two f ref_id_byte ∷ get_or f limit_byte 0 ∷ get_or f columns_byte 0 ∷ get_or f messages_byte 0 ∷ []

-- which version a file says that it is, and how many columns and messages it says that it has
abbrev pub version_in : List ℕ → ℕ
version_in f = two f 3

abbrev pub layout_in : List ℕ → Layout
layout_in f = layout_of (version_in f)

abbrev pub columns_in : List ℕ → ℕ
columns_in f = get_or f columns_byte 0

abbrev pub messages_in : List ℕ → ℕ
messages_in f = get_or f messages_byte 0

-- the words of a file of layout L: after the header come the column records, then the message records
unfoldable pub words_in : Layout → List ℕ → List ℕ
words_in L f =
    header_of f
    ++ run (columns_in f) (λ c. column_of L (piece (column_size L) c (drop head_bytes f)))
    ++ run (messages_in f) (λ j. message_of L (piece (message_size L) j (drop (column_byte L (columns_in f)) f)))

-- the words of a file, by its version
abbrev pub words_of : List ℕ → List ℕ
words_of f = words_in (layout_in f) f

-- ---- from words to bytes
-- the letters TSM, the version, the seven words, 0
abbrev pub header_bytes : Layout → List ℕ → List ℕ
header_bytes L p =
    84 ∷ 83 ∷ 77
    ∷ high (version L) ∷ low (version L)
    ∷ low (rows p)
    ∷ high (cycle p) ∷ low (cycle p)
    ∷ high (ref_len p) ∷ low (ref_len p)
    ∷ high (ref_id p) ∷ low (ref_id p)
    ∷ low (limit p) ∷ low (columns p) ∷ low (messages p) ∷ 0 ∷ []

-- the file of layout L of a problem's words
unfoldable pub file_of : Layout → List ℕ → List ℕ
file_of L p =
    header_bytes L p
    ++ run (columns p) (λ c. column_bytes L (piece 3 c (drop header_words p)))
    ++ run (messages p) (λ j. message_bytes L (piece 7 j (drop (column_at (columns p)) p)))

abbrev pub byte_count : Layout → List ℕ → ℕ
byte_count L p = bytes_for L (columns p) (messages p)

-- layout L has room for every kind and identifier of p
pub record Held (L : Layout) (p : List ℕ) : Type 0 where
  pub kinds : (c : ℕ) → c < columns p → kind p c ≤ kind_most L
  pub identifiers : (j : ℕ) → j < messages p → identifier p j ≤ identifier_most L
