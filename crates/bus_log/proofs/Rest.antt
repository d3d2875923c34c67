-- A log behind its first matrix cycle: each pair must be the one of the matrix cycle before, a matrix cycle later.
use Rattle.std.proofs.Common.{ℕ, suc, ◌+◌, ◌*◌, ◌-◌, ◌/◌, ◌%◌, ◌<◌, ◌≤◌, min, ◌≡◌, refl, sym, ap, subst, ◌∙◌, List, ◌++◌, length, get_or, take, drop, length-append, length-drop, Result, Ok, Err, IsErrAnd, arith, mul-le-mul, get_or-take, get_or-drop, length-take-le}
use Rattle.std.specs.Result.{result_err}
use lib.ListN.{get_or-append}
use Rattle.basics.specs.Runs.{run}
use Rattle.basics.proofs.Runs.{run-split}
use Rattle.rules.specs.Problem.{most_rows, rows, cycle, matrix, messages}
use Rattle.rules.specs.Paper.{paper, done}
use Rattle.rules.proofs.Bounds.{rows-least}
use Rattle.proposal.specs.Accepted.{Accepted}
use Rattle.cells.specs.Table.{Table}
use Rattle.bus_log.specs.declared.Difference.{Difference}
use Rattle.bus_log.specs.Span.{IsDue, cycle_sends, most_span}
use Rattle.bus_log.specs.Against.{Held, Differing, nothing, Against, differs}
use Rattle.bus_log.specs.Parts.{Agreeing, Begins, with_all, but-for}
use Rattle.bus_log.specs.Promise.{HeldAnswered}
use Rattle.bus_log.specs.Rows.{words_of_row, row_most}
use Rattle.bus_log.proofs.Differing.{Same, Tells, same-on, apart-at, same-clean, differing-at, differing-behind, differing-longer}
use Rattle.bus_log.proofs.Early.{time-fits}
use Rattle.bus_log.proofs.Later.{comes-again}
use Rattle.bus_log.proofs.Rows.{rows-most}
use Rattle.bus_log.proofs.Size.{due-size}
use Rattle.bus_log.proofs.Walk.{rows-due}

-- how far it can be compared: from the first n words on to `reach`, in whole pairs
pub record Lengths (log : List ℕ) (n reach : ℕ) : Type 0 where
  pub some : 2 ≤ n
  pub reached : n ≤ reach
  pub in-log : reach ≤ length log
  pub even : (reach - n) % 2 ≡ 0
  pub behind : length (take (reach - n) (drop n log)) ≡ reach - n

-- what to answer, where x is due, `full` words, and n + r of the log are right: the pair behind them is not, or the log goes on, or it is clean
pub record Outcome (x log : List ℕ) (n full later r : ℕ) : Type 0 where
  pub differs : n + r < full → {d : Difference} → d.index ≡ (n + r) / 2 → d.time ≡ get_or log r 0 + later → d.identifier ≡ get_or log (r + 1) 0 → Differing x log d
  -- the time that is due fits a word
  pub fits : n + r < full → get_or log r 0 + later < 4294967296
  pub goes_on : full ≤ n + r → full < length log → {d : Difference} → d.index ≡ full / 2 → d.time ≡ nothing → d.identifier ≡ nothing → Differing x log d
  pub clean : full ≤ n + r → length log ≤ full → log ≡ x

module _ {p w t : List ℕ} (a : Accepted p w) (b : Table p w (messages p) t) (span : ℕ) (some : 1 ≤ span) (few : span ≤ most_span) where
  -- the words of the first matrix cycle, and of all
  abbrev pub one : List ℕ
  one = run (rows p) (words_of_row p t)

  abbrev pub all : List ℕ
  all = run (span * rows p) (words_of_row p t)

  -- how many they are
  one_size : length one ≡ 2 * cycle_sends p
  one_size =
      let e : 1 * rows p ≡ rows p = omega arith in
      let d : IsDue p w 1 one = subst (λ (k : ℕ). IsDue p w 1 (run k (words_of_row p t))) e (rows-due a b 1) in
      due-size a 1 d ∙ omega arith

  all-size : length all ≡ length one * span
  all-size = due-size a span (rows-due a b span) ∙ omega (arith, ap (◌* span) one_size)

  -- the rest of the rows
  more : ℕ
  more = (span - 1) * rows p

  all-rows : span * rows p ≡ rows p + more
  unfolding more
  all-rows = let e : span ≡ suc (span - 1) = omega arith in ap (◌* rows p) e ∙ omega arith

  all-parts : all ≡ one ++ run more (λ i. words_of_row p t (rows p + i))
  all-parts = ap (λ (k : ℕ). run k (words_of_row p t)) all-rows ∙ run-split (words_of_row p t) (rows p) more

  -- ---- the first matrix cycle
  module _ {log : List ℕ} where
    pub first-differs : {d : Difference} → Begins one log (Err d) → Differing all log d
    first-differs (but-for d l h) = rw all-parts (differing-longer (run more (λ i. words_of_row p t (rows p + i))) l h)

    first-size : {n : ℕ} → Begins one log (Ok n) → n ≡ length one
    first-size (with_all n en e) = en

    pub first-few : {n : ℕ} → Begins one log (Ok n) → n ≤ most_rows * row_most
    first-few b = omega (arith, first-size b, rows-most p t (rows p) a.formed.header.columns-most, a.formed.header.rows-most)

    pub all-few : {n : ℕ} → Begins one log (Ok n) → n * span ≤ most_rows * row_most * most_span
    all-few b = mul-le-mul {n₂ = most_rows * row_most} {m₂ = most_span} (first-few b) few

    first-same : {n : ℕ} → Begins one log (Ok n) → Same all log n
    first-same (with_all n en e) = record {
      inside = omega (arith, ap length all-parts, length-append one (run more (λ i. words_of_row p t (rows p + i))));
      in-log = omega (arith, ap length e, length-append one (drop n log));
      each = λ k l.
          ap (λ (x : List ℕ). get_or x k 0) e
          ∙ get_or-append one (drop n log) 0 k (omega arith)
          ∙ sym (get_or-append one (run more (λ i. words_of_row p t (rows p + i))) 0 k (omega arith))
          ∙ ap (λ (x : List ℕ). get_or x k 0) (sym all-parts);
    }

    -- ---- behind it: `full` words are due, `reach` of them can be compared, and r behind the first n are as they were a matrix cycle before
    module _
        {n full later reach : ℕ} (begun : Same all log n) (even : length log % 2 ≡ 0) (en : n ≡ length one) (ef : full ≡ length all)
        (el : later ≡ matrix p) (er : reach ≡ min (length log) full)
      where
        pair-first : (2 ≤ n) × (n % 2 ≡ 0)
        unfolding cycle_sends
        pair-first = let least = rows-least a.formed in (omega (arith, one_size), omega (arith, one_size))

        all-even : length all % 2 ≡ 0
        all-even = omega (arith, due-size a span (rows-due a b span))

        lengths-by : Lengths log n reach
        lengths-by =
            let s = begun in
            let two = pair-first.1 in
            let pairs = all-even in
            record {
              some = pair-first.0;
              reached = omega arith;
              in-log = omega arith;
              even = omega arith;
              behind = length-take-le (reach - n) (drop n log) (rw length-drop (omega arith));
            }

        reads : (k : ℕ) → k < length (take (reach - n) (drop n log)) → get_or (take (reach - n) (drop n log)) k 0 ≡ get_or log (n + k) 0
        reads k l = get_or-take (reach - n) (drop n log) k 0 (omega (arith, lengths-by.behind)) ∙ get_or-drop n log k 0

        fits : n + length (take (reach - n) (drop n log)) ≤ length log
        fits = let s = lengths-by in omega (arith, lengths-by.behind)

        -- what is due is as it was a matrix cycle before
        again : (m : ℕ) → n + 2 * m + 1 < length all → Tells all all n later (2 * m)
        again m l =
            let g : ℕ → List ℕ = words_of_row p t in
            let tell : Tells (run (rows p + more) g) (run (rows p + more) g) (length one) (matrix p) (2 * m) =
            comes-again p t more m (subst (λ (k : ℕ). length one + 2 * m + 1 < length (run k g)) all-rows (omega arith)) in
            rw (all-rows, en, el) tell

        -- in the log, so far as it is right
        log-again : (m : ℕ) → n + 2 * m + 1 < length all → Same all log (n + 2 * m) → Tells all log n later (2 * m)
        log-again m l s =
            let tell = again m l in
            let two = pair-first.0 in
            record { time = tell.time ∙ ap (◌+ later) (sym (s.each (2 * m) (omega arith))); identifier = tell.identifier ∙ sym (s.each (2 * m + 1) (omega arith)) }

        -- r words agree, and the pair behind them does not
        module _ {r : ℕ} (c : Agreeing log later (take (reach - n) (drop n log)) r) where
          -- r is even too
          whole : (r % 2 ≡ 0) × (r ≤ reach - n)
          whole = (c.agreed.whole, omega (arith, c.agreed.in-log, lengths-by.behind))

          rest-same : Same all log (n + r)
          rest-same =
              let h = whole in
              let s = lengths-by in
              same-on log n reads fits begun c.agreed (omega arith) (λ m l so_far. log-again m (omega arith) so_far)

          -- ---- the answers
          -- the pair that is due behind them
          due-next : n + r < full → Tells all log n later r
          due-next l =
              let h = whole in
              let two = pair-first.1 in
              let pairs = all-even in
              let e : 2 * (r / 2) ≡ r = omega arith in
              rw e at (log-again (r / 2) (omega arith) (rw e rest-same))

          outcome-by : Outcome all log n full later r
          outcome-by = record { differs = rest-differs; fits = rest-fits; goes_on = rest-behind; clean = rest-clean }
            where
              rest-differs : n + r < full → {d : Difference} → d.index ≡ (n + r) / 2 → d.time ≡ get_or log r 0 + later → d.identifier ≡ get_or log (r + 1) 0 → Differing all log d
              rest-differs l {d} ei et ed =
                  let h = whole in
                  let s = lengths-by in
                  let two = pair-first.1 in
                  let pairs = all-even in
                  let next = due-next l in
                  differing-at rest-same (omega arith) (omega arith) even (et ∙ sym next.time) (ed ∙ sym next.identifier)
                  (λ there. apart-at log n reads fits (omega (arith, lengths-by.behind)) c (omega arith) (omega (arith, lengths-by.behind)) next)

              -- a time that is due fits a word
              rest-fits : n + r < full → get_or log r 0 + later < 4294967296
              rest-fits l =
                  let h = whole in
                  let two = pair-first.1 in
                  let half : 2 * ((n + r) / 2) ≡ n + r = omega arith in
                  let small : get_or all (n + r) 0 < 4294967296 = rw half at (time-fits (rows-due a b span) ((n + r) / 2) (omega arith) a.formed few) in
                  omega (arith, (due-next l).time)

              rest-behind : full ≤ n + r → full < length log → {d : Difference} → d.index ≡ full / 2 → d.time ≡ nothing → d.identifier ≡ nothing → Differing all log d
              rest-behind l ll ei et ed =
                  let h = whole in
                  let s = lengths-by in
                  let pairs = all-even in
                  let e : n + r ≡ length all = omega arith in
                  differing-behind (subst (Same all log) e rest-same) (omega arith) (omega arith) even et ed

              rest-clean : full ≤ n + r → length log ≤ full → log ≡ all
              rest-clean l ll =
                  let h = whole in
                  let s = lengths-by in
                  let e : n + r ≡ length all = omega arith in
                  same-clean (subst (Same all log) e rest-same) (omega arith)

    -- ---- the same from how the log begins
    module _ {n reach : ℕ} (first : Begins one log (Ok n)) (even : length log % 2 ≡ 0) (er : reach ≡ min (length log) (n * span)) where
      full_is : n * span ≡ length all
      full_is = ap (◌* span) (first-size first) ∙ sym all-size

      pub lengths : Lengths log n reach
      lengths = lengths-by {later = matrix p} (first-same first) even (first-size first) full_is refl er

      pub outcome : {rows-is cycle-is r : ℕ} → rows-is ≡ rows p → cycle-is ≡ cycle p
          → Agreeing log (rows-is * cycle-is) (take (reach - n) (drop n log)) r → Outcome all log n (n * span) (rows-is * cycle-is) r
      outcome el ec c = outcome-by (first-same first) even (first-size first) full_is (rw (el, ec)) er c

-- ---- the answer, where the log and what is due are told
pub answered : {p w x log : List ℕ} {span : ℕ} {r : Held} → paper r ≡ done → IsDue p w span x → Against x log r → HeldAnswered (Ok tt) p w span log r
answered e d h = record { paper-is = e; due = _; due-is = λ _. d; held = λ _. h }

-- a difference that is handed on
pub handed-on : {x log : List ℕ} {d : Difference} (r : Result (Unit {0}) Difference) → IsErrAnd r (λ e. e ≡ d) → Differing x log d → Against x log (Ok (result_err r))
handed-on (Ok u) e h = absurd e
handed-on (Err d) e h = differs d (rw e h)
