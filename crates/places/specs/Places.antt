-- The places that messages may take, as a table. A set of columns is a word with a digit for each, and so is a set of messages.
use Rattle.std.specs.Prelude.{ℕ, ◌+◌, ◌*◌, ◌%◌, ◌<◌, ◌≤◌, ◌≡◌, List, get_or, Option, None, Some, Ok}
use Rattle.basics.specs.Bits.{Has}
use Rattle.rules.specs.Problem.{most_rows, most_columns, rows, messages, repeat, column, row, WellFormed}
use Rattle.rules.specs.Parts.{Repeat}
use Rattle.rules.specs.Tests.{common, own_fault, Stand}
use Rattle.row_words.specs.RowWords.{SetBefore}

-- ---- the most messages that are planned
abbrev pub most_planned : ℕ
most_planned = 16

-- a table has a word for each message j and row i: where it stands, and how many there are
abbrev pub table_at : ℕ → ℕ → ℕ
table_at j i = most_rows * j + i

abbrev pub table_words : ℕ
table_words = most_rows * most_planned

-- a problem that the planner takes
pub record Few (p : List ℕ) : Type 0 where
  pub formed : WellFormed p
  pub most : messages p ≤ most_planned

-- the words of s are how often its messages are sent: every so many rows
pub record Steps (p s : List ℕ) : Type 0 where
  pub each : (j : ℕ) → j < messages p → Repeat p j (get_or s j 0)

-- ---- one message by itself, where the cells that the row words o have are taken
-- it may stand at column c and base row r: it has no fault of its own, and none of its cells is taken
pub record Open (p o : List ℕ) (j c r : ℕ) : Type 0 where
  pub own : own_fault p j c r ≡ Ok tt
  pub free : SetBefore o c r (repeat p j) (rows p) → ⊥

-- x has exactly the columns in which message j may stand with base row r
pub record Allowed (p o : List ℕ) (j r x : ℕ) : Type 0 where
  pub holds : (c : ℕ) → Open p o j c r → Has x c
  pub only : (c : ℕ) → Has x c → Open p o j c r

-- the table t has such a word for each message and base row
pub record Allows (p o t : List ℕ) : Type 0 where
  pub each : (j r : ℕ) → j < messages p → r < repeat p j → Allowed p o j r (get_or t (table_at j r) 0)

-- ---- beside message m at column c and base row r
-- message j at column d and base row i meets it: one column, and equal base rows modulo the smaller repeat
pub record Clash (p : List ℕ) (m c r j d i : ℕ) : Type 0 where
  pub one-column : d ≡ c
  pub rows_agree : i % common p m j ≡ r % common p m j

-- z has exactly the columns of x in which message j, with base row i, does not meet it
pub record Spared (p : List ℕ) (m c r j i x z : ℕ) : Type 0 where
  pub keeps : (d : ℕ) → d < most_columns → Has x d → (Clash p m c r j d i → ⊥) → Has z d
  pub only : (d : ℕ) → Has z d → Has x d
  pub unmet : (d : ℕ) → Has z d → Clash p m c r j d i → ⊥

-- the table b has such a word for each word that the table a has of a message of the set l
pub record Beside (p : List ℕ) (l m c r : ℕ) (a b : List ℕ) : Type 0 where
  pub each : (j i : ℕ) → j < messages p → Has l j → i < repeat p j → Spared p m c r j i (get_or a (table_at j i) 0) (get_or b (table_at j i) 0)

-- and here the same word
pub record Copied (p : List ℕ) (l : ℕ) (a b : List ℕ) : Type 0 where
  pub each : (j i : ℕ) → j < messages p → Has l j → i < repeat p j → get_or b (table_at j i) 0 ≡ get_or a (table_at j i) 0

-- r is the first base row with which message j has a place in the table a
pub record FirstPlace (a : List ℕ) (j r : ℕ) : Type 0 where
  pub none : (i : ℕ) → i < r → get_or a (table_at j i) 0 ≡ 0
  pub some : 0 < get_or a (table_at j r) 0

-- it is the first of n, or none of these has a place
abbrev pub FirstRow : List ℕ → ℕ → ℕ → Option ℕ → Type 0
FirstRow a j n None = (i : ℕ) → i < n → get_or a (table_at j i) 0 ≡ 0
FirstRow a j n (Some r) = (r < n) × FirstPlace a j r

-- ---- all messages
-- the messages of the set l stand in w at places of the table a
pub record Within (p a : List ℕ) (l : ℕ) (w : List ℕ) : Type 0 where
  pub has : (j : ℕ) → j < messages p → Has l j → Has (get_or a (table_at j (row w j)) 0) (column w j)

-- nothing without a fault has them there
pub record Shut (p a : List ℕ) (l : ℕ) : Type 0 where
  pub none : (w : List ℕ) → Stand p (messages p) w → Within p a l w → ⊥

-- what has no fault and has the messages of l at places of a has them at places of b
pub record Narrowed (p : List ℕ) (l : ℕ) (a b : List ℕ) : Type 0 where
  pub keeps : (w : List ℕ) → Stand p (messages p) w → Within p a l w → Within p b l w
