-- Document 01's rule, which looks at the first instance only, and that the answer by all instances is never below it: no miss of the old rule passes now.
use Prim.Native.Nat.{ℕ, ◌+◌, ◌<◌, ◌≤◌}
use mathlib.Core.Path.{◌≡◌}
use mathlib.Core.List.{List}
use native.Mathlib.Decide.{dec_le}
use native.Mathlib.Omega.{arith}
use Rattle.basics.specs.Fixed.{LeastSolution}
use Rattle.response.specs.Events.{jitter, deadline}
use Rattle.response.specs.Times.{takes, blocking, demand, Busy, Queued, Response, Written, met, missed}
use Rattle.response.specs.Parts.{Member}
use Rattle.response.proofs.Instances.{queued-exists}
use Rattle.response.proofs.Spans.{arrives}

-- ---- document 01's rule
-- the queuing time: the least w with w = blocking + demand (w + 1)
abbrev pub queue01 : List ℕ → ℕ → ℕ → ℕ
queue01 e i w = blocking e i + demand e i (w + 1)

abbrev pub Queued01 : List ℕ → ℕ → ℕ → Type 0
Queued01 e i w = LeastSolution (queue01 e i) 0 w

-- the response of an event that is queued for w
abbrev pub response01 : List ℕ → ℕ → ℕ → ℕ
response01 e i w = jitter e i + w + takes e i

-- y is written: the response, if a queuing time exists and the response is at most the deadline; otherwise 0
pub data Written01 (e : List ℕ) (i y : ℕ) : Type 0 where
  met01 : (w : ℕ) → Queued01 e i w → response01 e i w ≤ deadline e i → y ≡ response01 e i w → Written01 e i y
  missed01 : ((w : ℕ) → Queued01 e i w → deadline e i < response01 e i w) → y ≡ 0 → Written01 e i y

-- ---- it is the rule of instance 0: its equation is queue e i 0, ahead of which no instance goes
module _ (e : List ℕ) (i : ℕ) {w : ℕ} where
  pub to-first : Queued01 e i w → Queued e i 0 w
  to-first a = record { from = a.from; solves = omega (arith, a.solves); least = λ v l q. a.least v l (omega arith) }

  pub of-first : Queued e i 0 w → Queued01 e i w
  of-first a = record { from = a.from; solves = omega (arith, a.solves); least = λ v l q. a.least v l (omega arith) }

-- ---- the theorems
-- an event with a busy period has a queuing time
pub queued01-exists : {e : List ℕ} {i t : ℕ} → Member e i → Busy e i t → (w : ℕ) × Queued01 e i w
queued01-exists {e} {i} {t} m b = let x = queued-exists e i b 0 (arrives m t b.from) in (x.0, of-first e i x.1)

-- and its response by document 01 is at most the one by all instances
pub never-below : {e : List ℕ} {i t q r w : ℕ} → Response e i t q r → Queued01 e i w → response01 e i w ≤ r
never-below {e} {i} {t} {q} {r} {w} a b =
    a.longest.most 0 (response01 e i w) (omega (arith, a.longest.inside)) (record { waits = w; queued = to-first e i b; is = omega arith })

-- a response that is written now was written by document 01 too, and was at most that
pub written_then : {e : List ℕ} {i x y : ℕ} → Written e i x → 1 ≤ x → Written01 e i y → (1 ≤ y) × (y ≤ x)
written_then (met t q a l) h (met01 w b k z) = (omega arith, omega (arith, never-below a b))
written_then {e} {i} (met t q a l) h (missed01 late z) =
    let x = queued-exists e i a.busy 0 (omega (arith, a.longest.inside)) in
    let w = of-first e i x.1 in
    absurd (omega (arith, late x.0 w, never-below a w))
written_then (missed t q r a l z) h y = absurd (omega arith)

-- so what was missed then is missed now
pub still-missed : {e : List ℕ} {i x : ℕ} → Written01 e i 0 → Written e i x → x ≡ 0
still-missed {x = x} then now =
    elim (dec_le 1 x) [
      | yes h ↦ absurd (omega (arith, (written_then now h then).0))
      | no h ↦ omega arith
    ]
