-- Events, as a list of words, five each: the words by name, the rules that they keep, and what is wrong with events that break one.
use Rattle.std.specs.Prelude.{ℕ, ◌+◌, ◌*◌, ◌/◌, ◌%◌, ◌<◌, ◌≤◌, ◌≡◌, Bool, not, ◌||◌, List, length, get_or, ltb, leb, eqb}
use Rattle.basics.specs.Tests.{outside, some}
use Rattle.rules.specs.declared.Refusal.TheVariants.{EventWords, Event}
use Rattle.rules.specs.Refusal.{guard, ◌⊕◌, first_fault, Fault}

-- ---- document 01's numbers
-- so many words are an event
abbrev pub event_words : ℕ
event_words = 5

-- a call takes at most so many events, and so many words
abbrev pub most_events : ℕ
most_events = 64

abbrev pub most_words : ℕ
most_words = event_words * most_events

-- no period is longer
abbrev pub longest_period : ℕ
longest_period = 4194304

-- ---- the words of the events e
-- how many events they are
abbrev pub count : List ℕ → ℕ
count e = length e / event_words

-- word k of event j, and the five by name
abbrev pub field : List ℕ → ℕ → ℕ → ℕ
field e j k = get_or e (event_words * j + k) 0

abbrev pub identifier : List ℕ → ℕ → ℕ
identifier e j = field e j 0

abbrev pub size : List ℕ → ℕ → ℕ
size e j = field e j 1

abbrev pub period : List ℕ → ℕ → ℕ
period e j = field e j 2

abbrev pub jitter : List ℕ → ℕ → ℕ
jitter e j = field e j 3

abbrev pub deadline : List ℕ → ℕ → ℕ
deadline e j = field e j 4

-- they have all words of event j
abbrev pub Gives : List ℕ → ℕ → Type 0
Gives e j = (event_words * j + event_words ≤ length e) × (j < most_events)

-- ---- the rules
pub record Rules (e : List ℕ) (j : ℕ) : Type 0 where
  pub identifier-most : identifier e j ≤ 2047
  pub size-most : size e j ≤ 8
  pub period-least : 1 ≤ period e j
  pub period-most : period e j ≤ longest_period
  pub jitter-below : jitter e j < period e j
  pub deadline-least : 1 ≤ deadline e j
  pub deadline-most : deadline e j ≤ period e j
  pub unlike-earlier : (i : ℕ) → i < j → ¬ (identifier e i ≡ identifier e j)

-- the words are whole events, and not too many
pub record Whole (e : List ℕ) : Type 0 where
  pub words : length e ≡ event_words * count e
  pub count_most : count e ≤ most_events

-- and each event keeps the rules
pub record Sound (e : List ℕ) : Type 0 where
  pub whole : Whole e
  pub rules : (j : ℕ) → j < count e → Rules e j

-- ---- the rules as tests, to be computed: each says that a rule is broken
-- an event's identifier, data bytes, period, jitter or deadline is out of its range
abbrev pub fields_wrong : ℕ → ℕ → ℕ → ℕ → ℕ → Bool
fields_wrong i s t j d = ltb 2047 i || ltb 8 s || outside t 1 longest_period || leb t j || outside d 1 t

-- an earlier event has event j's identifier
unfoldable pub repeated : List ℕ → ℕ → Bool
repeated e j = some j (λ i. eqb (identifier e i) (identifier e j))

unfoldable pub event_wrong : List ℕ → ℕ → Bool
event_wrong e j = fields_wrong (identifier e j) (size e j) (period e j) (jitter e j) (deadline e j) || repeated e j

-- so many words aren't whole events, or are too many
abbrev pub words_wrong : ℕ → Bool
words_wrong n = not (eqb (n % event_words) 0) || ltb most_words n

-- ---- what is wrong: with event j, and with events
abbrev pub event_fault : List ℕ → ℕ → Fault
event_fault e j = guard (event_wrong e j) (Event j)

unfoldable pub events_fault : List ℕ → Fault
events_fault e = guard (words_wrong (length e)) EventWords ⊕ first_fault (count e) (event_fault e)
