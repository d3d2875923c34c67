-- Which turn of a message falls on a row, the rows counted from time 0 on through all matrix cycles.
use Rattle.std.proofs.Common.{ℕ, ◌+◌, ◌*◌, ◌-◌, ◌/◌, ◌%◌, ◌^◌, ◌≤◌, ◌<◌, ◌≡◌, refl, ap, List, lt_of_mul-lt-mul_right, arith}
use native.Mathlib.Nat.{mod-add-div', min-eq_left, div-eq_of_eq-mul_left}
use Rattle.rules.specs.Cells.{Here}
use Rattle.rules.specs.Problem.{rows, messages, repeat, column, row}
use Rattle.rules.specs.Parts.{Member}
use Rattle.rules.specs.Sends.{Source}
use Rattle.rules.proofs.Bounds.{member, repeat-is, repeat-least}
use Rattle.rules.proofs.Digits.{Multiple, min-divides}
use Rattle.proposal.specs.Accepted.{Accepted}
use Rattle.proposal.proofs.Sound.{placed}
use Rattle.bus_log.specs.Span.{Occurrence}

-- how often a message repeats divides the rows
pub repeat-divides : {p : List ℕ} {j : ℕ} → Member p j → Multiple (repeat p j) (rows p)
repeat-divides {p} {j} m =
    let smaller : 2 ^ m.timing.power ≤ 2 ^ m.formed.header.rows-power = rw (← m.formed.header.rows_is) m.timing.repeat-fits in
    rw (repeat-is m, m.formed.header.rows_is) (rw (min-eq_left smaller) at (min-divides m.timing.power m.formed.header.rows-power).1)

-- so it is sent as often in a span of matrix cycles as that says
pub times-in : {p : List ℕ} {j : ℕ} (m : Member p j) (span : ℕ) → span * rows p / repeat p j ≡ span * (repeat-divides m).times
times-in m span = div-eq_of_eq-mul_left (repeat-least m) (omega (arith, ap (span *◌) (repeat-divides m).is))

abbrev pub occurrence : Source → ℕ → Occurrence
occurrence s n = record { source = s; turn = n }

-- the turn of message j in row i, if it has one there
abbrev pub turn_at : List ℕ → List ℕ → ℕ → ℕ → ℕ
turn_at p w j i = (i - row w j) / repeat p j

module _ {p w : List ℕ} (a : Accepted p w) (j : ℕ) (l : j < messages p) where
  pub turn_is : (i n : ℕ) → row w j + n * repeat p j ≡ i → turn_at p w j i ≡ n
  turn_is i n e = div-eq_of_eq-mul_left (repeat-least (member a.formed l)) (omega arith)

  -- a message that starts in a cell of the matrix does so in each matrix cycle
  pub again : (i c : ℕ) → Here p w j (i % rows p) c → row w j + turn_at p w j i * repeat p j ≡ i
  again i c h =
      let d = repeat-divides (member a.formed l) in
      let n = h.turn + i / rows p * d.times in
      let e : row w j + n * repeat p j ≡ i = omega (arith, h.same_row, mod-add-div' i (rows p), ap ((i / rows p) *◌) d.is) in
      rw (turn_is i n e) e

  -- and where it does so in some matrix cycle, it is one of the matrix
  pub within : (i n : ℕ) → row w j + n * repeat p j ≡ i → Here p w j (i % rows p) (column w j)
  within i n e =
      let d = repeat-divides (member a.formed l) in
      let before = i / rows p * d.times in
      let whole : before * repeat p j ≡ i / rows p * rows p = omega (arith, ap ((i / rows p) *◌) d.is) in
      let rest = mod-add-div' i (rows p) in
      let few : before < n + 1 = lt_of_mul-lt-mul_right (repeat p j) {m = before} {n = n + 1} (omega (arith, (placed a j l).row_below)) in
      let parts : n ≡ (n - before) + before = omega arith in
      record { same-column = refl; turn = n - before; same_row = omega (arith, ap (◌* repeat p j) parts) }
