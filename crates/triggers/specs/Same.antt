-- When what concerns a node is the same in two plans, and which words of the lists are the node's own.
use Rattle.std.specs.Prelude.{ℕ, ◌+◌, ◌*◌, ◌≡◌, List, get_or, take, drop}
use Rattle.basics.specs.Sums.{sum}
use Rattle.rules.specs.Problem.{ref_id, start, identifier, repeat, column, row, nodes, sends}
use Rattle.rules.specs.Sends.{message}
use Rattle.triggers.specs.Lists.{Entered, entry_words}

-- message i of p, placed by w, is to node n as message j of q, placed by v
pub record SameTo (p w q v : List ℕ) (n i j : ℕ) : Type 0 where
  pub identifier-same : identifier p i ≡ identifier q j
  -- the node sends both, or sends neither
  pub sends-same : sends p n i ≡ sends q n j
  -- both are placed at one mark, in whichever columns, and in one row
  pub mark-same : start p (column w i) ≡ start q (column v j)
  pub row_same : row w i ≡ row v j
  pub repeat-same : repeat p i ≡ repeat q j

-- among the messages of q that concern node n is one as message i of p
pub record Found (p w q v : List ℕ) (n i : ℕ) : Type 0 where
  pub number : ℕ
  pub entered : Entered q n (message number)
  pub same : SameTo p w q v n i number

-- what concerns node n is the same in both plans, whatever other messages there are and whatever their order
pub record SameFor (p w q v : List ℕ) (n : ℕ) : Type 0 where
  pub reference-same : ref_id p ≡ ref_id q
  pub none-lost : (i : ℕ) → Entered p n (message i) → Found p w q v n i
  pub none-new : (j : ℕ) → Entered q n (message j) → Found q v p w n j

-- ---- in a buffer x that has the lists at its front: how many entries node n has, and their words
abbrev pub count_in : List ℕ → ℕ → ℕ
count_in x n = get_or x n 0

unfoldable pub list_in : List ℕ → ℕ → List ℕ
list_in x n = take (entry_words * count_in x n) (drop (nodes + entry_words * sum n (count_in x)) x)
