-- What a problem and a proposal are: lists of words, whose words have names, and the rules of document 01 that a well-formed problem keeps.
use Rattle.std.specs.Prelude.{ℕ, zero, suc, ◌+◌, ◌*◌, ◌/◌, ◌^◌, ◌≤◌, ◌<◌, ◌≡◌, Bool, List, eqb, length, get_or}
use Rattle.basics.specs.Bits.{bit}
use Rattle.basics.specs.Sums.{sum, only}

-- ---- the words of a problem p
abbrev pub rows : List ℕ → ℕ
rows p = get_or p 0 0

abbrev pub cycle : List ℕ → ℕ
cycle p = get_or p 1 0

abbrev pub ref_len : List ℕ → ℕ
ref_len p = get_or p 2 0

abbrev pub ref_id : List ℕ → ℕ
ref_id p = get_or p 3 0

abbrev pub limit : List ℕ → ℕ
limit p = get_or p 4 0

abbrev pub columns : List ℕ → ℕ
columns p = get_or p 5 0

abbrev pub messages : List ℕ → ℕ
messages p = get_or p 6 0

-- where the words stand: seven of the header, then three for column c, then, behind k columns, seven for message j
abbrev pub header_words : ℕ
header_words = 7

abbrev pub column_at : ℕ → ℕ
column_at c = header_words + 3 * c

abbrev pub message_at : ℕ → ℕ → ℕ
message_at k j = column_at k + 7 * j

-- of column c
abbrev pub start : List ℕ → ℕ → ℕ
start p c = get_or p (column_at c) 0

abbrev pub width : List ℕ → ℕ → ℕ
width p c = get_or p (column_at c + 1) 0

-- 0 is an exclusive window
abbrev pub kind : List ℕ → ℕ → ℕ
kind p c = get_or p (column_at c + 2) 0

-- word k of message j, and the seven by name
abbrev pub field : List ℕ → ℕ → ℕ → ℕ
field p j k = get_or p (message_at (columns p) j + k) 0

abbrev pub identifier : List ℕ → ℕ → ℕ
identifier p j = field p j 0

abbrev pub sender : List ℕ → ℕ → ℕ
sender p j = field p j 1

abbrev pub size : List ℕ → ℕ → ℕ
size p j = field p j 2

abbrev pub receivers : List ℕ → ℕ → ℕ
receivers p j = field p j 3

abbrev pub period : List ℕ → ℕ → ℕ
period p j = field p j 4

abbrev pub offset : List ℕ → ℕ → ℕ
offset p j = field p j 5

abbrev pub deadline : List ℕ → ℕ → ℕ
deadline p j = field p j 6

-- how many words k columns and m messages make, and how many a problem has
abbrev pub words_for : ℕ → ℕ → ℕ
words_for k m = message_at k m

abbrev pub word_count : List ℕ → ℕ
word_count p = words_for (columns p) (messages p)

-- how long an 11-bit frame with s data bytes takes, worst-case stuffing and interframe space included, and C, a frame of message j
abbrev pub frame : ℕ → ℕ
frame s = 55 + 10 * s

abbrev pub lasts : List ℕ → ℕ → ℕ
lasts p j = frame (size p j)

-- how long a matrix cycle is
abbrev pub matrix : List ℕ → ℕ
matrix p = rows p * cycle p

-- every how many rows message j is sent
abbrev pub repeat : List ℕ → ℕ → ℕ
repeat p j = period p j / cycle p

-- ---- the words of a proposal w: two for each message
abbrev pub proposal_words : List ℕ → ℕ
proposal_words p = 2 * messages p

-- w has those of message j
abbrev pub Gives : List ℕ → ℕ → Type 0
Gives w j = 2 * j + 1 < length w

abbrev pub column : List ℕ → ℕ → ℕ
column w j = get_or w (2 * j) 0

abbrev pub row : List ℕ → ℕ → ℕ
row w j = get_or w (2 * j + 1) 0

-- ---- the triggers of a node, of which there are 16: 1 for the reference, 1 for each message it sends, 1 for each it receives
abbrev pub nodes : ℕ
nodes = 16

abbrev pub sends : List ℕ → ℕ → ℕ → Bool
sends p n j = eqb (sender p j) n

abbrev pub receives : List ℕ → ℕ → ℕ → Bool
receives p n j = eqb (bit (receivers p j) n) 1

unfoldable pub triggers : List ℕ → ℕ → ℕ
triggers p n = 1 + sum (messages p) (λ j. only (sends p n j) 1 + only (receives p n j) 1)

-- ---- the rules
pub record Header (p : List ℕ) : Type 0 where
  -- rows are 1, 2, 4, 8, 16, 32 or 64
  pub rows-power : ℕ
  pub rows_is : rows p ≡ 2 ^ rows-power
  pub rows-most : rows p ≤ 64
  pub cycle-least : 1 ≤ cycle p
  pub cycle-most : cycle p ≤ 65535
  pub reference-least : 65 ≤ ref_len p
  pub reference-most : ref_len p ≤ cycle p
  pub reference-identifier : ref_id p ≤ 2047
  pub limit-least : 1 ≤ limit p
  pub limit-most : limit p ≤ 32
  pub columns-least : 1 ≤ columns p
  pub columns-most : columns p ≤ 32
  pub messages-most : messages p ≤ 64

-- the earliest place at which column c may start: behind the reference window, or behind the column before
unfoldable pub earliest : List ℕ → ℕ → ℕ
earliest p zero = ref_len p
earliest p (suc c) = start p c + width p c

pub record Column (p : List ℕ) (c : ℕ) : Type 0 where
  pub start-most : start p c ≤ 65535
  pub width-most : width p c ≤ 65535
  pub width-least : 1 ≤ width p c
  -- as yet every window is exclusive
  pub kind-most : kind p c ≤ 0
  pub ordered : earliest p c ≤ start p c
  pub last-ends : suc c ≡ columns p → start p c + width p c ≤ cycle p

pub record Identity (p : List ℕ) (j : ℕ) : Type 0 where
  pub identifier-most : identifier p j ≤ 2047
  pub unlike-reference : ¬ (identifier p j ≡ ref_id p)
  pub unlike-earlier : (i : ℕ) → i < j → ¬ (identifier p i ≡ identifier p j)
  pub sender-most : sender p j ≤ 15
  pub size-most : size p j ≤ 8
  pub receivers-most : receivers p j ≤ 65535
  -- bit n of the receivers is node n, and the sender is none of them
  pub not-to-itself : bit (receivers p j) (sender p j) ≡ 0

pub record Timing (p : List ℕ) (j : ℕ) : Type 0 where
  pub power : ℕ
  pub period-is : period p j ≡ cycle p * 2 ^ power
  pub repeat-fits : 2 ^ power ≤ rows p
  pub offset-below : offset p j < period p j
  pub deadline-least : 1 ≤ deadline p j
  pub deadline-most : deadline p j ≤ period p j

pub record WellFormed (p : List ℕ) : Type 0 where
  pub header : Header p
  pub words : length p ≡ word_count p
  pub column : (c : ℕ) → c < columns p → Column p c
  pub identity : (j : ℕ) → j < messages p → Identity p j
  pub timing : (j : ℕ) → j < messages p → Timing p j
  -- all 16 nodes count, silent ones too
  pub triggers-most : (n : ℕ) → n < nodes → triggers p n ≤ limit p

-- ---- a column and a base row that message j can have, and a proposal that gives every message such
pub record Placed (p : List ℕ) (j c r : ℕ) : Type 0 where
  pub column-below : c < columns p
  pub row_below : r < repeat p j

pub record InRange (p w : List ℕ) : Type 0 where
  pub words : length w ≡ proposal_words p
  pub placed : (j : ℕ) → j < messages p → Placed p j (column w j) (row w j)

-- ---- how large it can be: no well-formed problem has more rows, columns, messages, triggers a node, and words
abbrev pub most_rows : ℕ
most_rows = 64

abbrev pub most_columns : ℕ
most_columns = 32

abbrev pub most_messages : ℕ
most_messages = 64

abbrev pub most_triggers : ℕ
most_triggers = 32

abbrev pub most_words : ℕ
most_words = words_for most_columns most_messages
