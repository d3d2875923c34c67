-- A log is clean exactly where it is what is due, so exactly where it is what the other call writes; a log that ends early differs at its end.
use Rattle.std.proofs.Common.{ℕ, ◌+◌, ◌*◌, ◌/◌, ◌%◌, ◌<◌, ◌≡◌, refl, sym, ap, subst, ◌∙◌, ◌||◌, not, eqb, List, length, take, Ok, None, Some, arith, eq-eqb, eqb-true, take_at, take_all, take-take, length-take-le}
use borrow.Author.Tests.{not-false}
use lib.Seq.{take-length}
use Rattle.basics.proofs.Tests.{or-false}
use Rattle.rules.specs.declared.Refusal.TheVariants.{Log}
use Rattle.rules.specs.Refusal.{guard}
use Rattle.rules.specs.declared.Paper.{Paper}
use Rattle.rules.specs.Paper.{paper}
use Rattle.rules.proofs.Faults.{clear_both, clear-guard}
use Rattle.rules.proofs.Told.{done-clear}
use Rattle.problem.specs.File.{words_of}
use Rattle.proposal.specs.Accepted.{check_fault}
use Rattle.bus_log.specs.declared.Difference.{Difference}
use Rattle.bus_log.specs.Span.{IsDue}
use Rattle.bus_log.specs.Against.{Held, Differing, Against, clean, differs}
use Rattle.bus_log.specs.Promise.{wrong_span, hold_fault, Holding, DueWritten}
use Rattle.bus_log.proofs.Determined.{due-one}
use Rattle.bus_log.proofs.HeldLog.{pair-shared, holding-one}
use Rattle.bus_log.proofs.Results.{Listed, written_listed, written-size}

module _ (f w log : List ℕ) (span : ℕ) where
  -- an answer that is no refusal had no fault
  held-clear : {r : Held} → (paper r).number ≡ 0 → Holding f w log span r → hold_fault f w (length log) span ≡ Ok tt
  held-clear e h = done-clear (hold_fault f w (length log) span) (sym (ap (λ (t : Paper). t.number) h.paper-is) ∙ e)

  pub clean-is-due : Holding f w log span (Ok None) → IsDue (words_of f) w span log
  clean-is-due h = let fine = held-clear refl h in go (h.held fine) (h.due-is fine)
    where
      go : {x : List ℕ} → Against x log (Ok None) → IsDue (words_of f) w span x → IsDue (words_of f) w span log
      go (clean e) d = rw e d

  pub due-is-clean : hold_fault f w (length log) span ≡ Ok tt → IsDue (words_of f) w span log → Holding f w log span (Ok None)
  due-is-clean fine d = record { paper-is = rw fine; due = log; due-is = λ _. d; held = λ _. clean refl }

  -- the theorem: where nothing is refused, the answer is clean exactly where the log is what is due
  pub clean-exactly : {r : Held} → hold_fault f w (length log) span ≡ Ok tt → Holding f w log span r
      → (r ≡ Ok None → IsDue (words_of f) w span log) × (IsDue (words_of f) w span log → r ≡ Ok None)
  clean-exactly fine h = (
    λ e. clean-is-due (subst (Holding f w log span) e h),
    λ d. holding-one f w log span h (due-is-clean fine d),
  )

  -- ---- against what the other call writes
  module _ {d e : List ℕ} {n : ℕ} (h : DueWritten f w span d e (Ok n)) where
    wrote : Listed f w span d e n
    wrote = written_listed f w span d h

    front-is : take n e ≡ wrote.due
    front-is = ap (take n) wrote.buffer ∙ take_at wrote.due _ n (sym wrote.count)

    written-fine : log ≡ take n e → hold_fault f w (length log) span ≡ Ok tt
    written-fine el =
        let long : length log ≡ n = ap length (el ∙ front-is) ∙ sym wrote.count in
        let even : length log % 2 ≡ 0 = omega (arith, long, written-size f w span d h) in
        rw (wrote.admitted, eq-eqb (length log % 2) 0 even, wrote.span_right)

    -- the theorem: the answer is clean exactly where the log is the words that are written
    pub clean-due : {r : Held} → Holding f w log span r → (r ≡ Ok None → log ≡ take n e) × (log ≡ take n e → r ≡ Ok None)
    clean-due k = (
      λ er. due-one (clean-is-due (subst (Holding f w log span) er k)) wrote.due-is ∙ sym front-is,
      λ el. (clean-exactly (written-fine el) k).1 (rw (el ∙ front-is) wrote.due-is),
    )

-- ---- a log that ends early
module _ {x log : List ℕ} {d : Difference} (front : log ≡ take (length log) x) (h : Differing x log d) where
  not-before : length log % 2 ≡ 0 → ¬ (2 * d.index < length log)
  not-before even l =
      let whole : 2 * (length log / 2) ≡ length log = omega arith in
      h.unlike (pair-shared (length log / 2) d.index log x (omega arith) (rw whole (take-length log ∙ front)))

  not_behind : length log < length x → ¬ (length log < 2 * d.index)
  not_behind short l =
      let more : ℕ = length log + 1 in
      let same : take more log ≡ take more x = sym (take-take more (2 * d.index) log (omega arith)) ∙ ap (take more) h.agreed ∙ take-take more (2 * d.index) x (omega arith) in
      let longer = ap length (sym (take_all more log (omega arith)) ∙ same) ∙ length-take-le more x (omega arith) in
      omega arith

-- a log of n words and a span that pass the test
log-right : (n span : ℕ) → guard (not (eqb (n % 2) 0) || wrong_span span) Log ≡ Ok tt → n % 2 ≡ 0
log-right n span e = eqb-true (n % 2) 0 (not-false (eqb (n % 2) 0) (or-false (not (eqb (n % 2) 0)) (wrong_span span) (clear-guard _ Log e)).0)

-- the theorem: it differs at its end
pub short-index : (f w log : List ℕ) (span : ℕ) {x : List ℕ} {d : Difference} → IsDue (words_of f) w span x → log ≡ take (length log) x → length log < length x
    → Holding f w log span (Ok (Some d)) → 2 * d.index ≡ length log
short-index f w log span {x} {d} due front short h =
    let fine = held-clear f w log span refl h in
    let even = log-right (length log) span (clear_both (check_fault f w) _ fine).1 in
    let at = go (subst (λ (y : List ℕ). Against y log (Ok (Some d))) (due-one (h.due-is fine) due) (h.held fine)) in
    omega (arith, not-before front at even, not_behind front at short)
  where
    go : {y l : List ℕ} {c : Difference} → Against y l (Ok (Some c)) → Differing y l c
    go (differs c k) = k
