-- The trigger list of each node: which entries it holds, in which order, and the words of all the lists.
use Rattle.std.specs.Prelude.{ℕ, ◌+◌, ◌*◌, ◌<◌, ◌≡◌, Bool, true, ◌||◌, cond, List, [], ◌∷◌, ◌++◌, length}
use Rattle.basics.specs.Rising.{InOrder}
use Rattle.basics.specs.Runs.{run}
use Rattle.basics.specs.Sums.{sum}
use Rattle.rules.specs.Problem.{most_triggers, messages, start, repeat, column, row, nodes, sends, receives, triggers}
use Rattle.rules.specs.Sends.{Source, reference, message, identifier_of}

-- ---- the sources that node n has an entry for: the reference message, each message that it sends and each that it receives
abbrev pub concerns : List ℕ → ℕ → ℕ → Bool
concerns p n j = sends p n j || receives p n j

abbrev pub Entered : List ℕ → ℕ → Source → Type 0
Entered p n reference = Unit {0}
Entered p n (message j) = (j < messages p) × (concerns p n j ≡ true)

-- ---- the entry of a source: so many words
abbrev pub entry_words : ℕ
entry_words = 4

-- its kind: 0 reference, 1 sends, 2 receives
abbrev pub kind : List ℕ → ℕ → Source → ℕ
kind p n reference = 0
kind p n (message j) = cond (sends p n j) 1 2

-- the start of the column, without the row
abbrev pub time_mark : List ℕ → List ℕ → Source → ℕ
time_mark p w reference = 0
time_mark p w (message j) = start p (column w j)

abbrev pub base_row : List ℕ → Source → ℕ
base_row w reference = 0
base_row w (message j) = row w j

abbrev pub repeat_of : List ℕ → Source → ℕ
repeat_of p reference = 1
repeat_of p (message j) = repeat p j

-- what a kind counts in the first word, where the identifier, of 11 bits, is added to it
abbrev pub kind_weight : ℕ
kind_weight = 65536

unfoldable pub entry : List ℕ → List ℕ → ℕ → Source → List ℕ
entry p w n s = (kind p n s * kind_weight + identifier_of p s) ∷ time_mark p w s ∷ base_row w s ∷ repeat_of p s ∷ []

-- ---- the order: entries rise by mark, then by row
pub data Before (p w : List ℕ) (s t : Source) : Type 0 where
  by-mark : time_mark p w s < time_mark p w t → Before p w s t
  by_row : time_mark p w s ≡ time_mark p w t → base_row w s < base_row w t → Before p w s t

-- ---- the list of node n
abbrev pub ListOf : List ℕ → List ℕ → ℕ → List Source → Type 0
ListOf p w n l = InOrder (Entered p n) (Before p w) l

unfoldable pub entries : List ℕ → List ℕ → ℕ → List Source → List ℕ
entries p w n [] = []
entries p w n (s ∷ l) = entry p w n s ++ entries p w n l

-- ---- the words x: a count for each node, then the list of node 0 first, each list directly behind the one before
pub record Lists (p w x : List ℕ) : Type 0 where
  pub list : ℕ → List Source
  pub each : (n : ℕ) → n < nodes → ListOf p w n (list n)
  pub words : x ≡ run nodes (λ n. length (list n) ∷ []) ++ run nodes (λ n. entries p w n (list n))

-- and how many they are
unfoldable pub size : List ℕ → ℕ
size p = nodes + entry_words * sum nodes (triggers p)

-- the lists of no problem have more
abbrev pub most_words : ℕ
most_words = nodes + entry_words * (nodes * most_triggers)
