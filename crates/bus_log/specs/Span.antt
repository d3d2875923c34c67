-- The list that is due in a span of matrix cycles from time 0: which occurrences it holds, in which order, and its words.
use Rattle.std.specs.Prelude.{ℕ, ◌+◌, ◌*◌, ◌/◌, ◌<◌, ◌≡◌, List, [], ◌∷◌, ◌++◌}
use Rattle.basics.specs.Rising.{InOrder}
use Rattle.basics.specs.Sums.{sum}
use Rattle.rules.specs.Problem.{rows, matrix, messages, repeat}
use Rattle.rules.specs.Sends.{Source, OnBus, begins, identifier_of}

-- occurrence `turn` of a source, counted from 0: a reference message, or a send, those before the first release too
pub record Occurrence : Type 0 where
  pub source : Source
  pub turn : ℕ

abbrev pub start_of : List ℕ → List ℕ → Occurrence → ℕ
start_of p w o = begins p w o.source o.turn

-- it starts in the span
pub record InSpan (p w : List ℕ) (span : ℕ) (o : Occurrence) : Type 0 where
  pub on-bus : OnBus p o.source
  pub in-time : start_of p w o < span * matrix p

-- the list: all that start in the span, and they rise by when they start
abbrev pub Before : List ℕ → List ℕ → Occurrence → Occurrence → Type 0
Before p w a b = start_of p w a < start_of p w b

abbrev pub DueList : List ℕ → List ℕ → ℕ → List Occurrence → Type 0
DueList p w span l = InOrder (InSpan p w span) (Before p w) l

-- its words: a pair for each, when it starts and its identifier
abbrev pub pair : List ℕ → List ℕ → Occurrence → List ℕ
pair p w o = start_of p w o ∷ identifier_of p o.source ∷ []

unfoldable pub pairs : List ℕ → List ℕ → List Occurrence → List ℕ
pairs p w [] = []
pairs p w (o ∷ l) = pair p w o ++ pairs p w l

pub record IsDue (p w : List ℕ) (span : ℕ) (x : List ℕ) : Type 0 where
  pub list : List Occurrence
  pub list-is : DueList p w span list
  pub words : x ≡ pairs p w list

-- how many sends they are, in one matrix cycle and in the span, and their words: a reference message for each row, and each message once in so many rows as it repeats
unfoldable pub cycle_sends : List ℕ → ℕ
cycle_sends p = rows p + sum (messages p) (λ j. rows p / repeat p j)

abbrev pub size : List ℕ → ℕ → ℕ
size p span = 2 * (cycle_sends p * span)

-- a span has at most so many matrix cycles
abbrev pub most_span : ℕ
most_span = 100
