-- Events on a plain CAN bus, by document 002's analysis and document 02 c): the busy period, the queuing times in it, and the response time that is written.
use Rattle.std.specs.Prelude.{ℕ, ◌+◌, ◌*◌, ◌-◌, ◌/◌, ◌<◌, ◌≤◌, ◌≡◌, Bool, not, List, ltb, eqb}
use Rattle.basics.specs.Sums.{sum, largest, only}
use Rattle.basics.specs.Tests.{some}
use Rattle.basics.specs.Fixed.{LeastSolution}
use Rattle.rules.specs.Problem.{frame}
use Rattle.response.specs.Events.{count, identifier, size, period, jitter, deadline}

-- event j has a higher priority than event i: a smaller identifier wins
abbrev pub wins : List ℕ → ℕ → ℕ → Bool
wins e j i = ltb (identifier e j) (identifier e i)

-- C: how long a frame of event j takes
abbrev pub takes : List ℕ → ℕ → ℕ
takes e j = frame (size e j)

-- ---- blocking: the longest C of lower priority than event i's, 0 if there is none
abbrev pub blocked_by : List ℕ → ℕ → ℕ → ℕ
blocked_by e i j = only (wins e i j) (takes e j)

abbrev pub blocking : List ℕ → ℕ → ℕ
blocking e i = largest (count e) (blocked_by e i)

-- ---- interference: what comes before event i within a span
-- a / b, rounded up
abbrev pub ceiling : ℕ → ℕ → ℕ
ceiling a b = (a + (b - 1)) / b

-- how many frames of event j can be queued within the span
abbrev pub arrivals : List ℕ → ℕ → ℕ → ℕ
arrivals e j span = ceiling (span + jitter e j) (period e j)

-- how long they take, if event j has a higher priority than event i
abbrev pub interference : List ℕ → ℕ → ℕ → ℕ → ℕ
interference e i span j = only (wins e j i) (takes e j * arrivals e j span)

abbrev pub demand : List ℕ → ℕ → ℕ → ℕ
demand e i span = sum (count e) (interference e i span)

-- ---- the busy period of event i: the least positive t with t = load e i t
-- one frame that blocks, and all frames of this event and of those of higher priority that can be queued within t
abbrev pub load : List ℕ → ℕ → ℕ → ℕ
load e i t = blocking e i + (takes e i * arrivals e i t + demand e i t)

abbrev pub Busy : List ℕ → ℕ → ℕ → Type 0
Busy e i t = LeastSolution (load e i) 1 t

-- the longest busy period that is allowed
abbrev pub longest_busy : ℕ
longest_busy = 16777216

-- event i has none that is allowed: none of 1, 2, .. up to the longest solves the equation
unfoldable pub endless : List ℕ → ℕ → Bool
endless e i = not (some longest_busy (λ t. eqb (t + 1) (load e i (t + 1))))

-- ---- the queuing time of instance q of event i, from 0: the least w with w = queue e i q w
-- the instances before it go first, and so does a frame of higher priority queued at the very instant w: the span is w + 1
abbrev pub queue : List ℕ → ℕ → ℕ → ℕ → ℕ
queue e i q w = blocking e i + q * takes e i + demand e i (w + 1)

abbrev pub Queued : List ℕ → ℕ → ℕ → ℕ → Type 0
Queued e i q w = LeastSolution (queue e i q) 0 w

-- ---- the response of event i, and x, the word that is written for it
-- what instance q's is, where it is queued for w
abbrev pub response : List ℕ → ℕ → ℕ → ℕ → ℕ
response e i q w = jitter e i + w + takes e i - q * period e i

-- r is the response of instance q
pub record Instance (e : List ℕ) (i q r : ℕ) : Type 0 where
  pub waits : ℕ
  pub queued : Queued e i q waits
  pub is : r ≡ response e i q waits

-- of the first n instances, q is the first that has the largest response, r
pub record Longest (e : List ℕ) (i n q r : ℕ) : Type 0 where
  pub inside : q < n
  pub here : Instance e i q r
  pub earlier : (k v : ℕ) → k < q → Instance e i k v → v < r
  pub most : (k v : ℕ) → k < n → Instance e i k v → v ≤ r

-- and so of those in the busy period t
pub record Response (e : List ℕ) (i t q r : ℕ) : Type 0 where
  pub busy : Busy e i t
  pub longest : Longest e i (arrivals e i t) q r

-- that response, if it is at most the deadline; otherwise 0
pub data Written (e : List ℕ) (i x : ℕ) : Type 0 where
  met : (t q : ℕ) → Response e i t q x → x ≤ deadline e i → Written e i x
  missed : (t q r : ℕ) → Response e i t q r → deadline e i < r → x ≡ 0 → Written e i x
