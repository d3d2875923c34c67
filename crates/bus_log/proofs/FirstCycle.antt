-- A log held against rows that are due, one by one.
use Rattle.std.proofs.Common.{ℕ, ◌+◌, ◌*◌, ◌-◌, ◌/◌, ◌%◌, ◌<◌, ◌≤◌, ◌≡◌, sym, ap, ◌∙◌, List, length, get_or, take, drop, length-append, length-drop, Err, arith, get_or-drop, take_at}
use lib.ListN.{get_or-append}
use Rattle.basics.specs.Runs.{run, Put}
use Rattle.basics.proofs.Runs.{run-next, run_inside, run_at, tail-part}
use Rattle.bus_log.specs.declared.Difference.{Difference}
use Rattle.bus_log.specs.Parts.{Agreeing, Begins, but-for}
use Rattle.bus_log.proofs.Differing.{Same, Tells, same-on, apart-at, differing-at}
use Rattle.bus_log.proofs.Rows.{run-even}

pub same_none : {x log : List ℕ} → Same x log 0
same_none = record { inside = omega arith; in-log = omega arith; each = λ k l. absurd (omega arith) }

-- a row that was written into a buffer stands in front of it
module _ (g : ℕ → List ℕ) {i n : ℕ} {row row' : List ℕ} (put : Put (g i) row row' n) where
  pub row-is : take n row' ≡ g i
  row-is = ap (take n) put.is ∙ take_at (g i) (drop n row) n (sym put.count)

  row-word : (k : ℕ) → k < n → get_or row' k 0 ≡ get_or (g i) k 0
  row-word k l = ap (λ (x : List ℕ). get_or x k 0) put.is ∙ get_or-append (g i) (drop n row) 0 k (omega (arith, put.count))

-- what is left of a log behind whole pairs has whole pairs too
pub rest-even : (at : ℕ) (log : List ℕ) → length log % 2 ≡ 0 → at % 2 ≡ 0 → at ≤ length log → length (take (length log - at) (drop at log)) % 2 ≡ 0
rest-even at log pairs even inside = rw (tail-part at log, length-drop) (omega arith)

-- the log is right up to row i
module _
    (g : ℕ → List ℕ) (even : (i : ℕ) → length (g i) % 2 ≡ 0) {rows i at : ℕ} {log : List ℕ}
    (pairs : length log % 2 ≡ 0) (reached : at ≡ length (run i g)) (same : Same (run rows g) log at)
  where
    -- row i was written into a buffer, and r words of what is left of the log are those of the row
    module _
        (below : i < rows) {n r : ℕ} {row row' : List ℕ} (put : Put (g i) row row' n)
        (compared : Agreeing (take n row') 0 (take (length log - at) (drop at log)) r)
      where
        agreeing : Agreeing (g i) 0 (drop at log) r
        agreeing = rw (row-is g put, tail-part at log) at compared

        -- what the row has is what is due
        tells : (k : ℕ) → k + 1 < length (g i) → Tells (run rows g) (g i) at 0 k
        tells k lk =
            let time = run_at g rows i below k (omega arith) in
            record { time = rw reached (omega arith); identifier = ap (λ (q : ℕ). get_or (run rows g) q 0) (omega arith) ∙ run_at g rows i below (k + 1) lk }

        reads : (k : ℕ) → k < length (drop at log) → get_or (drop at log) k 0 ≡ get_or log (at + k) 0
        reads k lk = get_or-drop at log k 0

        fits : at + length (drop at log) ≤ length log
        fits = omega (arith, length-drop at log, same.in-log)

        row-agrees : Same (run rows g) log (at + r)
        row-agrees =
            let within = agreeing.agreed.inside in
            let whole = agreeing.agreed.whole in
            let even-row = even i in
            same-on log at reads fits same agreeing.agreed (omega (arith, run_inside g rows i below)) (λ m lm s. tells (2 * m) (omega arith))

        -- where the row agrees wholly, the log is right up to the next row
        pub next-row : n ≤ r → (at + n ≡ length (run (i + 1) g)) × Same (run rows g) log (at + n)
        next-row l =
            let whole : r ≡ n = omega (arith, agreeing.agreed.inside, put.count) in
            (omega (arith, reached, put.count, ap length (run-next g i), length-append (run i g) (g i)), rw whole at row-agrees)

        -- where it doesn't, a whole pair of the row is left
        pub pair-left : r < n → r + 1 < n
        pair-left l = omega (arith, even i, agreeing.agreed.whole, put.count)

        -- and there the log differs
        pub row-differs : r < n → {d : Difference} → d.index ≡ (at + r) / 2 → d.time ≡ get_or row' r 0 → d.identifier ≡ get_or row' (r + 1) 0 → Begins (run rows g) log (Err d)
        row-differs l {d} ei et en =
            let count = put.count in
            let left = pair-left l in
            let whole = agreeing.agreed.whole in
            let before = run-even g even i in
            let inside = run_inside g rows i below in
            let t = tells r (omega arith) in
            let index : 2 * d.index ≡ at + r = omega arith in
            let part : length (drop at log) % 2 ≡ 0 = omega (arith, length-drop at log, same.in-log) in
            but-for d (omega arith)
            (differing-at row-agrees index (omega arith) pairs (omega (arith, t.time, row-word g put r l)) (en ∙ row-word g put (r + 1) left ∙ sym t.identifier)
            (λ there. apart-at log at reads fits part agreeing (omega arith) (omega (arith, length-drop at log)) t))
