-- The instances of an event in its busy period: each has a queuing time, which ends a frame before the busy period does, and was released before that; so there is a longest
-- response, and it is settled.
use Prim.Native.Nat.{ℕ, zero, suc, ◌+◌, ◌*◌, ◌-◌, ◌<◌, ◌≤◌}
use mathlib.Core.Path.{◌≡◌, refl, subst}
use mathlib.Core.List.{List}
use native.Mathlib.Nat.{mul-le-mul, le_antisymm}
use native.Mathlib.Decide.{dec_le, dec_lt}
use native.Mathlib.Numerals.{add-one}
use native.Mathlib.Omega.{arith}
use Rattle.basics.proofs.Fixed.{Under, least-exists, least-unique, least-is-under}
use Rattle.response.specs.Events.{jitter, period}
use Rattle.response.specs.Times.{takes, arrivals, load, Busy, queue, Queued, response, Instance, Longest, Response}
use Rattle.response.specs.Parts.{Member}
use Rattle.response.proofs.Queue.{ceiling-least, below-ceiling, demand-rises, queue-rises}
use Rattle.response.proofs.Spans.{arrives, busy-under}

-- ---- one instance
module _ (e : List ℕ) (i : ℕ) {t : ℕ} (b : Busy e i t) (q : ℕ) (l : q < arrivals e i t) where
  frames : q * takes e i + takes e i ≤ takes e i * arrivals e i t
  frames = omega (arith, mul-le-mul {n₁ = takes e i} {m₁ = q + 1} {n₂ = takes e i} {m₂ = arrivals e i t} (omega arith) (omega arith))

  -- a wait that ends a frame before the busy period is long enough
  enough : queue e i q (t - takes e i) ≤ t - takes e i
  enough = omega (arith, frames, b.solves, demand-rises e i (t - takes e i + 1) t (omega (arith, frames, b.solves)))

  pub waits-within : {w : ℕ} → Under (queue e i q) 0 w → w + takes e i ≤ t
  waits-within u = omega (arith, frames, b.solves, u.below (t - takes e i) (omega arith) enough)

  pub queued-exists : (w : ℕ) × Queued e i q w
  queued-exists = let x = least-exists {b = 0} (queue-rises e i q) (omega arith) (t - takes e i) (omega arith) enough in (x.0, x.1)

  pub instance-exists : (r : ℕ) × Instance e i q r
  instance-exists = let w = queued-exists in (response e i q w.0, record { waits = w.0; queued = w.1; is = refl })

-- it is released before the bus is free for it: what is taken off the response is never more than what is there
module _ {e : List ℕ} {i t : ℕ} (m : Member e i) (b : Busy e i t) where
  -- if it came only after a wait w, the bus would have come to rest at w
  rests : (q w : ℕ) → queue e i q w ≡ w → jitter e i + w ≤ q * period e i → load e i w ≤ w
  rests q w s h =
      let few : arrivals e i w ≤ q = ceiling-least (w + jitter e i) (period e i) q m.rules.period-least (omega arith) in
      omega (arith, demand-rises e i w (w + 1) (omega arith), mul-le-mul {n₁ = takes e i} {m₁ = arrivals e i w} {n₂ = takes e i} {m₂ = q} (omega arith) few)

  pub released : (q : ℕ) → q < arrivals e i t → {w : ℕ} → queue e i q w ≡ w → q * period e i ≤ jitter e i + w
  released zero l s = omega arith
  released (suc q) l {w} s =
      elim (dec_le (suc q * period e i) (jitter e i + w)) [
        | yes h ↦ h
        | no h ↦
            let before = below-ceiling (t + jitter e i) (period e i) (suc q) m.rules.period-least l in
            let after = busy-under m b w (omega arith) (rests (suc q) w s (omega arith)) in
            absurd (omega arith)
      ]

-- a later instance waits at least a frame longer
pub under-later : (e : List ℕ) (i q : ℕ) {w : ℕ} → Queued e i q w → Under (queue e i (q + 1)) 0 (w + takes e i)
under-later e i q {w} l = record {
  from = omega arith;
  grows = omega (arith, l.solves, demand-rises e i (w + 1) (w + takes e i + 1) (omega arith));
  below = λ v k h.
      let d = demand-rises e i (v - takes e i + 1) (v + 1) (omega arith) in
      let n = (least-is-under (queue-rises e i q) (omega arith) l).below (v - takes e i) (omega arith) (omega arith) in
      omega arith;
}

-- ---- the longest response
pub instance-one : {e : List ℕ} {i q r s : ℕ} → Instance e i q r → Instance e i q s → r ≡ s
instance-one a b = let w = least-unique a.queued b.queued in let x = a.is in let y = b.is in omega arith

-- of one instance
pub longest-first : {e : List ℕ} {i r : ℕ} → Instance e i 0 r → Longest e i 1 0 r
longest-first {e} {i} {r} a = record {
  inside = omega arith;
  here = a;
  earlier = λ k v l b. absurd (omega arith);
  most = λ k v l b. let z : k ≡ 0 = omega arith in omega (arith, instance-one (rw z at b) a);
}

-- and of one more, which is longer or not
module _ {e : List ℕ} {i n q r v : ℕ} (s : Longest e i n q r) (a : Instance e i n v) where
  pub longest-kept : v ≤ r → Longest e i (n + 1) q r
  longest-kept h = record {
    inside = omega (arith, s.inside);
    here = s.here;
    earlier = s.earlier;
    most = λ k u l b.
        elim (dec_lt k n) [
          | yes below ↦ s.most k u below b
          | no above ↦ let z : k ≡ n = omega arith in omega (arith, instance-one (rw z at b) a)
        ];
  }

  pub longest-next : r < v → Longest e i (n + 1) n v
  longest-next h = record {
    inside = omega arith;
    here = a;
    earlier = λ k u l b. omega (arith, s.most k u l b);
    most = λ k u l b.
        elim (dec_lt k n) [
          | yes below ↦ omega (arith, s.most k u below b)
          | no above ↦ let z : k ≡ n = omega arith in omega (arith, instance-one (rw z at b) a)
        ];
  }

longest-exists : {e : List ℕ} {i : ℕ} (n : ℕ) → ((q : ℕ) → q < n + 1 → (r : ℕ) × Instance e i q r) → (q : ℕ) × (r : ℕ) × Longest e i (n + 1) q r
longest-exists zero f = let a = f 0 (omega arith) in (0, a.0, longest-first a.1)
longest-exists {e} {i} (suc n) f =
    let s = longest-exists n (λ q l. f q (omega arith)) in
    let a = f (n + 1) (omega arith) in
    subst (λ (k : ℕ). (q : ℕ) × (r : ℕ) × Longest e i (k + 1) q r) (add-one n)
    (elim (dec_le a.0 s.1) [
      | yes h ↦ (s.0, s.1, longest-kept s.2 a.1 h)
      | no h ↦ (n + 1, a.0, longest-next s.2 a.1 (omega arith))
    ])

-- the theorem: an event with a busy period has a response
pub response-exists : {e : List ℕ} {i t : ℕ} → Member e i → Busy e i t → (q : ℕ) × (r : ℕ) × Response e i t q r
response-exists {e} {i} {t} m b =
    let n = arrivals e i t in
    let back : n - 1 + 1 ≡ n = omega (arith, arrives m t b.from) in
    let s = longest-exists (n - 1) (λ q l. instance-exists e i b q (omega arith)) in
    (s.0, s.1, record { busy = b; longest = subst (λ (k : ℕ). Longest e i k s.0 s.1) back s.2 })

-- and only one
pub response-one : {e : List ℕ} {i t u q p r s : ℕ} → Response e i t q r → Response e i u p s → (t ≡ u) × (q ≡ p) × (r ≡ s)
response-one {e} {i} {t} {u} {q} {p} {r} {s} a b =
    let z : t ≡ u = least-unique a.busy b.busy in
    let c : Longest e i (arrivals e i u) q r = rw z at a.longest in
    let d = b.longest in
    let same : r ≡ s = le_antisymm (d.most q r c.inside c.here) (c.most p s d.inside d.here) in
    (z, first c d same, same)
  where
    first : Longest e i (arrivals e i u) q r → Longest e i (arrivals e i u) p s → r ≡ s → q ≡ p
    first c d same =
        elim (dec_lt q p) [
          | yes l ↦ absurd (omega (arith, d.earlier q r l c.here))
          | no k ↦ elim (dec_lt p q) [
            | yes l ↦ absurd (omega (arith, c.earlier p s l d.here))
            | no l ↦ omega arith
          ]
        ]
