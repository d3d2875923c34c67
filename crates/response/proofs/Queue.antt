-- The two equations: a ceiling is what it is called, and what an event waits for never falls as the span grows, and rises by whole frames.
use Prim.Native.Nat.{ℕ, zero, suc, ◌+◌, ◌*◌, ◌-◌, ◌/◌, ◌<◌, ◌≤◌}
use mathlib.Core.Path.{◌≡◌, refl, subst}
use mathlib.Core.Bool.{Bool, true, false}
use mathlib.Core.List.{List}
use native.Mathlib.Nat.{le_antisymm, div-lt_iff_lt-mul, le-div_iff_mul-le, div-zero, div-mul-le_self}
use native.Mathlib.Omega.{arith}
use Rattle.std.specs.Int.{div_ceil}
use Rattle.std.proofs.lemmas.Grind.{div_ceil_times}
use Rattle.basics.specs.Sums.{only}
use Rattle.basics.proofs.Fixed.{NeverFalls}
use Rattle.basics.proofs.Sums.{sum-zero}
use Rattle.basics.proofs.Steps.{Step, stays, step-most, step-add, step-times, step-only, step_sum}
use Rattle.response.specs.Events.{count, period}
use Rattle.response.specs.Times.{wins, takes, blocking, ceiling, arrivals, demand, load, queue}
use Rattle.response.specs.Parts.{shortest_frame}

-- ---- a / b, rounded up
-- is the least number of b's that cover a
pub ceiling-least : (a b k : ℕ) → 1 ≤ b → a ≤ k * b → ceiling a b ≤ k
ceiling-least a b k h l =
    let m : ceiling a b < k + 1 = (div-lt_iff_lt-mul {k = b} {x = a + (b - 1)} {y = k + 1} h).1 (omega arith) in
    omega arith

-- so that fewer do not cover it
pub below-ceiling : (a b k : ℕ) → 1 ≤ b → k < ceiling a b → k * b < a
below-ceiling a b k h l =
    let m : (k + 1) * b ≤ a + (b - 1) = (le-div_iff_mul-le {k = b} {x = k + 1} {y = a + (b - 1)} h).0 (omega arith) in
    omega arith

pub ceiling-some : (a b : ℕ) → 1 ≤ a → 1 ≤ b → 1 ≤ ceiling a b
ceiling-some a b h k = (le-div_iff_mul-le {k = b} {x = 1} {y = a + (b - 1)} k).1 (omega arith)

-- the library's quotient, which is one more where something is left, is the same
pub rounded-up : (a b : ℕ) → 1 ≤ b → div_ceil a b ≡ ceiling a b
rounded-up a b h =
    let p = div_ceil_times a b h in
    le_antisymm ((le-div_iff_mul-le {k = b} {x = div_ceil a b} {y = a + (b - 1)} h).1 (omega arith)) (ceiling-least a b (div_ceil a b) h p.0)

-- ---- in a longer span
div-rises : (k x y : ℕ) → x ≤ y → x / k ≤ y / k
div-rises zero x y h = rw (div-zero x, div-zero y) (omega arith)
div-rises (suc k) x y h = (le-div_iff_mul-le {k = suc k} {x = x / suc k} {y = y} (omega arith)).1 (let a = div-mul-le_self x (suc k) in omega arith)

module _ (e : List ℕ) (i v w : ℕ) (h : v ≤ w) where
  frames-step : (j : ℕ) → Step shortest_frame (takes e j * arrivals e j v) (takes e j * arrivals e j w)
  frames-step j = step-times (takes e j) _ _ (omega arith) (div-rises (period e j) _ _ (omega arith))

  pub demand-step : Step shortest_frame (demand e i v) (demand e i w)
  demand-step = step_sum (count e) _ _ (λ j. step-only (wins e j i) (frames-step j))

  pub demand-rises : demand e i v ≤ demand e i w
  demand-rises = step-most demand-step

  pub load_step : Step shortest_frame (load e i v) (load e i w)
  load_step = step-add {x = blocking e i} (stays (omega arith)) (step-add (frames-step i) demand-step)

-- the demand is nothing, or a frame at least
pub demand-some : (e : List ℕ) (i span : ℕ) → Step shortest_frame 0 (demand e i span)
demand-some e i span =
    subst (λ (x : ℕ). Step shortest_frame x (demand e i span)) (sum-zero (count e) _ (λ j l. only-nothing (takes e j) (wins e j i)))
    (step_sum (count e) (λ j. only (wins e j i) (takes e j * 0)) _ (λ j. step-only (wins e j i) (step-times (takes e j) 0 _ (omega arith) (omega arith))))
  where
    only-nothing : (x : ℕ) (b : Bool) → only b (x * 0) ≡ 0
    only-nothing x true = omega arith
    only-nothing x false = refl

pub queue-rises : (e : List ℕ) (i q : ℕ) → NeverFalls (queue e i q)
queue-rises e i q = record { rises = λ v w h. let a = demand-rises e i (v + 1) (w + 1) (omega arith) in omega arith }

pub load-rises : (e : List ℕ) (i : ℕ) → NeverFalls (load e i)
load-rises e i = record { rises = λ v w h. step-most (load_step e i v w h) }
