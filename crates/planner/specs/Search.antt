-- What the search asks and answers at each call: its first k messages are placed as in v.
use Rattle.std.specs.Prelude.{ℕ, ◌*◌, ◌<◌, ◌≤◌, ◌≡◌, List, length, get_or, replicate, Option, None, Some, Ok}
use Rattle.basics.specs.Bits.{Has}
use Rattle.rules.specs.Problem.{rows, messages, repeat, column, row}
use Rattle.rules.specs.Tests.{own_fault, Stand}
use Rattle.row_words.specs.RowWords.{SetBefore}
use Rattle.places.specs.Places.{most_planned, table_at, Clash}
use Rattle.planner.specs.Order.{Agree, NotAfter}

-- the words of a plan: as many as the longest proposal that is planned has
abbrev pub plan_words : ℕ
plan_words = 2 * most_planned

-- a plan before anything is placed
abbrev pub unplanned : List ℕ
unplanned = replicate plan_words 0

-- the table t leaves the messages from k on only places that they may have by themselves and beside the first k of v
pub record Leaves (p : List ℕ) (k : ℕ) (v t : List ℕ) : Type 0 where
  pub own : (j r c : ℕ) → k ≤ j → j < messages p → r < repeat p j → Has (get_or t (table_at j r) 0) c → own_fault p j c r ≡ Ok tt
  pub unmet : (j r c : ℕ) → k ≤ j → j < messages p → r < repeat p j → Has (get_or t (table_at j r) 0) c → (i : ℕ) → i < k → Clash p i (column v i) (row v i) j c r → ⊥

-- the search comes to message k: it has placed those before, as in v, and the table t has the places that they leave
pub record Begun (p t : List ℕ) (k : ℕ) (v : List ℕ) : Type 0 where
  pub within : k ≤ messages p
  pub stands : Stand p k v
  pub leaves : Leaves p k v t

-- the set l has the messages from k on, of n
pub record From (k n l : ℕ) : Type 0 where
  pub late : (j : ℕ) → Has l j → k ≤ j
  pub all : (j : ℕ) → k ≤ j → j < n → Has l j

-- the set x has each column in which the table t has a place of message j with one of n base rows
pub record Columns (t : List ℕ) (j n x : ℕ) : Type 0 where
  pub has : (r c : ℕ) → r < n → Has (get_or t (table_at j r) 0) c → Has x c

-- w has no fault, and its messages from k on stand at places of the table t
pub record Fitting (p t : List ℕ) (k : ℕ) (w : List ℕ) : Type 0 where
  pub stands : Stand p (messages p) w
  pub inside : (j : ℕ) → k ≤ j → j < messages p → Has (get_or t (table_at j (row w j)) 0) (column w j)

-- there is no such w
pub record Full (p t : List ℕ) (k : ℕ) : Type 0 where
  pub none : (w : List ℕ) → Fitting p t k w → ⊥

-- ---- of the proposals A, for n messages, those that begin with v's first k placements
-- u, as long as v, is the least of them
pub record Best (A : List ℕ → Type 0) (n k : ℕ) (v u : List ℕ) : Type 0 where
  pub long : length u ≡ length v
  pub begins : Agree v u k
  pub among : A u
  pub least : (w : List ℕ) → A w → Agree v w k → NotAfter n u w

-- there is none
pub record Nowhere (A : List ℕ → Type 0) (k : ℕ) (v : List ℕ) : Type 0 where
  pub none : (w : List ℕ) → A w → Agree v w k → ⊥

abbrev pub Searched : (List ℕ → Type 0) → ℕ → ℕ → List ℕ → Option (List ℕ) → Type 0
Searched A n k v (Some u) = Best A n k v u
Searched A n k v None = Nowhere A k v

-- ---- where the cells that the row words o have are taken
-- w has no fault, and none of its cells is taken
pub record Suiting (p o w : List ℕ) : Type 0 where
  pub stands : Stand p (messages p) w
  pub free : (j : ℕ) → j < messages p → SetBefore o (column w j) (row w j) (repeat p j) (rows p) → ⊥
