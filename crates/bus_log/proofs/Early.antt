-- The times that are due are small: each is below the end of the span.
use Rattle.std.proofs.Common.{ℕ, zero, suc, ◌*◌, ◌≤◌, ◌<◌, List, [], ◌∷◌, ◌≡◌, refl, mul-le-mul, arith, length, get_or}
use mathlib.Core.List.{Memᴰ}
use Rattle.rules.specs.Problem.{rows, cycle, matrix, WellFormed}
use Rattle.bus_log.specs.Span.{Occurrence, start_of, pairs, IsDue, most_span}
use Rattle.bus_log.specs.Rows.{matrix_most}

time-below : (p w : List ℕ) (b : ℕ) (l : List Occurrence) → ((o : Occurrence) → Memᴰ o l → start_of p w o < b) → (k : ℕ) → 2 * k < length (pairs p w l)
    → get_or (pairs p w l) (2 * k) 0 < b
unfolding pairs
time-below p w b [] h k e = absurd (omega arith)
time-below p w b (o ∷ l) h zero e = h o (Memᴰ.head refl)
time-below p w b (o ∷ l) h (suc k) e =
    let next : 2 * suc k ≡ suc (suc (2 * k)) = omega arith in
    rw next (time-below p w b l (λ q m. h q (Memᴰ.tail m)) k (omega arith))

module _ {p w : List ℕ} {span : ℕ} {x : List ℕ} (d : IsDue p w span x) (k : ℕ) (l : 2 * k < length x) where
  pub time-early : get_or x (2 * k) 0 < span * matrix p
  time-early = rw d.words (time-below p w (span * matrix p) d.list (λ o m. (d.list-is.only o m).in-time) k (rw d.words at l))

  -- so it fits a word
  pub time-fits : WellFormed p → span ≤ most_span → get_or x (2 * k) 0 < 4294967296
  time-fits wf s =
      let one : matrix p ≤ matrix_most = mul-le-mul {n₁ = rows p} {m₁ = cycle p} wf.header.rows-most wf.header.cycle-most in
      let all : span * matrix p ≤ most_span * matrix_most = mul-le-mul {n₁ = span} {m₁ = matrix p} s one in
      omega (arith, time-early)
