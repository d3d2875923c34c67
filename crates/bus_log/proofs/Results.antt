-- Writing what is due of an accepted proposal keeps its promise, two results that the promise allows are equal, and how many words they have.
use Rattle.std.proofs.Common.{ℕ, ◌*◌, ◌≤◌, ◌<◌, ◌≡◌, refl, sym, subst, ◌∙◌, false, List, ◌++◌, length, drop, Ok, Err, arith, mul-le-mul, ltb-false}
use Rattle.basics.specs.Runs.{run, Put}
use Rattle.basics.proofs.Tests.{within}
use Rattle.rules.specs.declared.Refusal.TheVariants.{Room, Log}
use Rattle.rules.specs.Paper.{Answers, Answer, room_fault}
use Rattle.rules.specs.Problem.{rows, messages}
use Rattle.rules.specs.Refusal.{guard, Fault}
use Rattle.rules.proofs.Faults.{clear_both, clear-guard}
use Rattle.rules.proofs.Told.{answers-done, answers_one, answers-clear}
use Rattle.problem.specs.File.{words_of}
use Rattle.proposal.specs.Accepted.{check_fault, Accepted}
use Rattle.proposal.proofs.Accepting.{clear-accepted}
use Rattle.cells.specs.Table.{Table}
use Rattle.bus_log.specs.Span.{IsDue, cycle_sends, size, most_span}
use Rattle.bus_log.specs.Rows.{words_of_row}
use Rattle.bus_log.specs.Promise.{wrong_span, DueAnswered, DueAccepted, due_fault, DueWritten}
use Rattle.bus_log.proofs.Counts.{sends-most}
use Rattle.bus_log.proofs.Determined.{due-one}
use Rattle.bus_log.proofs.Size.{due-size}
use Rattle.bus_log.proofs.Walk.{rows-due}

-- ---- the list of an accepted proposal fits where there is room for so many words as the rule says, and is then written; n is how many sends start in a matrix cycle
module _
    {p w t : List ℕ} (a : Accepted p w) (b : Table p w (messages p) t) (span : ℕ) (d : List ℕ) {n : ℕ} (en : n ≡ cycle_sends p)
    (clear : room_fault (2 * (n * span)) (length d) ≡ Ok tt) {m : ℕ} (em : m ≡ rows p)
  where
    pub rows_fit : length (run (span * m) (words_of_row p t)) ≤ length d
    rows_fit = rw (em, due-size a span (rows-due a b span), ← en) (ltb-false (length d) (2 * (n * span)) (clear-guard _ Room clear))

    pub rows_written : {e : List ℕ} {r : ℕ} → Put (run (span * m) (words_of_row p t)) d e r → DueAccepted p w span d e (Ok r)
    rows_written h = record {
      due = run (span * m) (words_of_row p t);
      due-is = λ _. rw em (rows-due a b span);
      answers = answers-done (rw en at clear) (sym h.count) h.is;
    }

-- ---- two results of the list
-- where there is no fault, the words are the same; a fault leaves nothing of them to tell
written_one : (fault : Fault) {p w d e g : List ℕ} {span : ℕ} {r s : Answer} → DueAnswered fault p w span d e r → DueAnswered fault p w span d g s → (r ≡ s) × (e ≡ g)
written_one (Ok tt) {d = d} {g = g} {s = s} h k =
    answers_one h.answers (subst (λ (x : List ℕ). Answers (Ok tt) x d g s) (due-one (k.due-is refl) (h.due-is refl)) k.answers)
written_one (Err q) h k =
    answers_one h.answers record { paper-is = k.answers.paper-is; count-is = k.answers.count-is; buffer-is = k.answers.buffer-is }

-- the theorem: of the same file, proposal, span and buffer the promise allows one answer, and one buffer behind it
pub due-written-one : (f w : List ℕ) (span : ℕ) (d : List ℕ) {e g : List ℕ} {r s : Answer} → DueWritten f w span d e r → DueWritten f w span d g s → (r ≡ s) × (e ≡ g)
due-written-one f w span d h k = written_one (due_fault f w span (length d)) h k

-- ---- how many words
-- a list that was written is what is due, of an accepted proposal and a right span
pub record Listed (f w : List ℕ) (span : ℕ) (d e : List ℕ) (n : ℕ) : Type 0 where
  pub admitted : check_fault f w ≡ Ok tt
  pub span_right : wrong_span span ≡ false
  pub due : List ℕ
  pub due-is : IsDue (words_of f) w span due
  pub count : n ≡ length due
  pub buffer : e ≡ due ++ drop n d

pub written_listed : (f w : List ℕ) (span : ℕ) (d : List ℕ) {e : List ℕ} {n : ℕ} → DueWritten f w span d e (Ok n) → Listed f w span d e n
written_listed f w span d h =
    let wrote = answers-clear h.answers in
    let parts = clear_both (check_fault f w) _ wrote.0 in
    record {
      admitted = parts.0;
      span_right = clear-guard (wrong_span span) Log (clear_both (guard (wrong_span span) Log) _ parts.1).0;
      due = h.due;
      due-is = h.due-is wrote.0;
      count = wrote.1;
      buffer = h.answers.buffer-is ∙ rw (wrote.0, ← wrote.1);
    }

-- they are so many as the rule says, and few
pub written-size : (f w : List ℕ) (span : ℕ) (d : List ℕ) {e : List ℕ} {n : ℕ} → DueWritten f w span d e (Ok n) → n ≡ size (words_of f) span
written-size f w span d h =
    let wrote = written_listed f w span d h in wrote.count ∙ due-size (clear-accepted f w wrote.admitted) span wrote.due-is

pub due-small : (f : List ℕ) {w d e : List ℕ} {span n : ℕ} → DueWritten f w span d e (Ok n) → n < 4294967296
due-small f {w} {d} {span = span} h =
    let wrote = written_listed f w span d h in
    let fine = clear-accepted f w wrote.admitted in
    let few = mul-le-mul {n₁ = cycle_sends (words_of f)} {m₁ = span} (sends-most fine.formed) (within span 1 most_span wrote.span_right).1 in
    omega (arith, few, written-size f w span d h)
