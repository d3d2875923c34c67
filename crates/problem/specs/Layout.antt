-- What the versions of the problem file differ in, and their records: version 2 has a byte for a column's kind, and four bytes for an identifier.
use Rattle.std.specs.Prelude.{ℕ, ◌+◌, Bool, ◌||◌, cond, List, [], ◌∷◌, ◌++◌, eqb, get_or, drop}
use Rattle.problem.specs.declared.layout.Layout.{Layout}
use Rattle.problem.specs.declared.layout.Layout.TheVariants.{One, Two}
use Rattle.problem.specs.Bytes.{two, four, low, high, third, top}

-- ---- the two versions
abbrev pub version : Layout → ℕ
version One = 1
version Two = 2

abbrev pub is_version : ℕ → Bool
is_version v = eqb v 1 || eqb v 2

abbrev pub layout_of : ℕ → Layout
layout_of v = cond (eqb v 1) One Two

-- ---- a column's kind: its bytes, what it is in a record, itself as bytes, and the largest that there is room for
abbrev pub kind_size : Layout → ℕ
kind_size One = 0
kind_size Two = 1

abbrev pub kind_of : Layout → List ℕ → ℕ
kind_of One r = 0
kind_of Two r = get_or r 4 0

abbrev pub kind_bytes : Layout → ℕ → List ℕ
kind_bytes One x = []
kind_bytes Two x = low x ∷ []

abbrev pub kind_most : Layout → ℕ
kind_most One = 0
kind_most Two = 255

-- ---- a message's identifier: the same
abbrev pub identifier_size : Layout → ℕ
identifier_size One = 2
identifier_size Two = 4

abbrev pub identifier_of : Layout → List ℕ → ℕ
identifier_of One r = two r 0
identifier_of Two r = four r 0

abbrev pub identifier_bytes : Layout → ℕ → List ℕ
identifier_bytes One x = high x ∷ low x ∷ []
identifier_bytes Two x = top x ∷ third x ∷ high x ∷ low x ∷ []

abbrev pub identifier_most : Layout → ℕ
identifier_most One = 65535
identifier_most Two = 4294967295

-- ---- a column's record: start, width, kind
abbrev pub column_size : Layout → ℕ
column_size L = 4 + kind_size L

abbrev pub column_of : Layout → List ℕ → List ℕ
column_of L r = two r 0 ∷ two r 2 ∷ kind_of L r ∷ []

abbrev pub column_bytes : Layout → List ℕ → List ℕ
column_bytes L w = high (get_or w 0 0) ∷ low (get_or w 0 0) ∷ high (get_or w 1 0) ∷ low (get_or w 1 0) ∷ kind_bytes L (get_or w 2 0)

-- ---- a message's record: identifier, and behind it, in 16 bytes, sender node, data bytes, receiver mask, period, offset, deadline
abbrev pub rest_of : List ℕ → List ℕ
rest_of r = get_or r 0 0 ∷ get_or r 1 0 ∷ two r 2 ∷ four r 4 ∷ four r 8 ∷ four r 12 ∷ []

abbrev pub rest_bytes : List ℕ → List ℕ
rest_bytes w =
    low (get_or w 1 0) ∷ low (get_or w 2 0)
    ∷ high (get_or w 3 0) ∷ low (get_or w 3 0)
    ∷ top (get_or w 4 0) ∷ third (get_or w 4 0) ∷ high (get_or w 4 0) ∷ low (get_or w 4 0)
    ∷ top (get_or w 5 0) ∷ third (get_or w 5 0) ∷ high (get_or w 5 0) ∷ low (get_or w 5 0)
    ∷ top (get_or w 6 0) ∷ third (get_or w 6 0) ∷ high (get_or w 6 0) ∷ low (get_or w 6 0) ∷ []

abbrev pub message_size : Layout → ℕ
message_size L = identifier_size L + 16

abbrev pub message_of : Layout → List ℕ → List ℕ
message_of L r = identifier_of L r ∷ rest_of (drop (identifier_size L) r)

abbrev pub message_bytes : Layout → List ℕ → List ℕ
message_bytes L w = identifier_bytes L (get_or w 0 0) ++ rest_bytes w
