-- How often each source is due: its turns in the list are 0, 1, 2 and so on, each once.
use Rattle.std.proofs.Common.{ℕ, suc, ◌+◌, ◌*◌, ◌/◌, ◌≤◌, ◌<◌, ◌≡◌, refl, ap, List, [], ◌∷◌, lt_of_mul-lt-mul_right, mul-le-mul_right, arith, length}
use mathlib.Core.List.Memᴰ
use Rattle.basics.specs.Rising.{InOrder}
use Rattle.basics.specs.Runs.{run}
use Rattle.basics.proofs.Rising.{in-order-one, climbs-one, climbs-run, Climbs}
use Rattle.basics.proofs.Runs.{in-run, length_run}
use Rattle.rules.specs.Problem.{rows, cycle, matrix, repeat, row}
use Rattle.rules.specs.Sends.{Source, reference, message, OnBus, begins}
use Rattle.rules.proofs.Bounds.{member}
use Rattle.rules.proofs.Slots.{send-is}
use Rattle.proposal.specs.Accepted.{Accepted}
use Rattle.cells.proofs.Starts.{at}
use Rattle.bus_log.specs.Span.{Occurrence, DueList}
use Rattle.bus_log.proofs.Turns.{occurrence, repeat-divides, times-in}
use Rattle.bus_log.proofs.Sources.{turns_of, in_turns, of_turns, turns-rise}

-- ---- the numbers below k in a row
below : (k : ℕ) → InOrder (λ (n : ℕ). n < k) ◌<◌ (run k (λ i. i ∷ []))
below k =
    let c : Climbs (λ (n : ℕ). n) 0 k (run k (λ i. i ∷ [])) =
    climbs-run _ k {lo = λ i. i} record { up = λ i l. omega arith; each = λ i l. climbs-one _ (omega arith) (omega arith) } in
    record { only = c.to; all = λ n l. in-run (λ i. i ∷ []) k n l (Memᴰ.head refl); rising = c.rising }

-- ---- how often a source is due
abbrev pub times_due : List ℕ → ℕ → Source → ℕ
times_due p span reference = span * rows p
times_due p span (message j) = span * rows p / repeat p j

-- its turn n starts in the span exactly where n is below that
record Early (p w : List ℕ) (span : ℕ) (s : Source) (n : ℕ) : Type 0 where
  to : begins p w s n < span * matrix p → n < times_due p span s
  from : n < times_due p span s → begins p w s n < span * matrix p

module _ {p w : List ℕ} (a : Accepted p w) (span : ℕ) where
  early : (s : Source) (n : ℕ) → OnBus p s → Early p w span s n
  early reference n u = record {
    to = λ l. lt_of_mul-lt-mul_right (cycle p) {m = n} {n = span * rows p} (omega arith);
    from = λ l. omega (arith, mul-le-mul_right {m = suc n} {n = span * rows p} (cycle p) l, a.formed.header.cycle-least);
  }
  early (message j) n u =
      let m = member a.formed u in
      let d = repeat-divides m in
      let s = at a j u in
      let k = span * d.times in
      let whole : span * rows p ≡ k * repeat p j = omega (arith, ap (span *◌) d.is) in
      let is = send-is p w j s n in
      record {
        to = λ l.
            let i : row w j + n * repeat p j < span * rows p = lt_of_mul-lt-mul_right (cycle p) {m = row w j + n * repeat p j} {n = span * rows p} (omega arith) in
            rw (times-in m span) (lt_of_mul-lt-mul_right (repeat p j) {m = n} {n = k} (omega arith));
        from = λ l.
            let r : suc n * repeat p j ≤ k * repeat p j = mul-le-mul_right {m = suc n} {n = k} (repeat p j) (rw (times-in m span) at l) in
            let i : suc (row w j + n * repeat p j) * cycle p ≤ span * rows p * cycle p =
            mul-le-mul_right {m = suc (row w j + n * repeat p j)} {n = span * rows p} (cycle p) (omega (arith, s.placed.row_below)) in
            omega (arith, s.ends, s.wide);
      }

  -- the law
  pub turns-due : {l : List Occurrence} → DueList p w span l → (s : Source) → OnBus p s → turns_of s l ≡ run (times_due p span s) (λ i. i ∷ [])
  turns-due {l} d s u =
      let turns : InOrder (λ (n : ℕ). n < times_due p span s) ◌<◌ (turns_of s l) = record {
        only = λ n m. (early s n u).to (d.only (occurrence s n) (of_turns s l n m)).in-time;
        all = λ n h. in_turns s l n (d.all (occurrence s n) record { on-bus = u; in-time = (early s n u).from h });
        rising = turns-rise p w s l d.rising;
      } in
      in-order-one (λ x y h g. omega arith) turns (below (times_due p span s))

  -- so it is due so often
  pub times-due : {l : List Occurrence} → DueList p w span l → (s : Source) → OnBus p s → length (turns_of s l) ≡ times_due p span s
  times-due d s u = rw (turns-due d s u, length_run (λ i. i ∷ []) 1 (λ i. refl) (times_due p span s)) (omega arith)
