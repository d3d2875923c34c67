-- The search as a function to be computed, shown to find the least plan or that there is none, so that a worked case is proved by running it.
use Prim.Native.Nat.{ℕ, zero, suc, ◌+◌, ◌<◌, ◌≤◌}
use mathlib.Core.Path.{◌≡◌, refl, subst, ◌∙◌}
use mathlib.Core.List.{List}
use mathlib.Core.Option.{Option, some, none}
use native.Mathlib.Nat.{add-zero}
use native.Mathlib.Omega.{arith}
use lib.ListN.{length, replicate, length-set, length-replicate}
use lib.Seq.{take_all}
use Rattle.rules.specs.Problem.{columns, messages, repeat, proposal_words, Gives, WellFormed}
use Rattle.rules.specs.Tests.{fault, Stand}
use Rattle.rules.proofs.Faults.{bad-not-clear}
use Rattle.rules.proofs.Meaning.{stands}
use Rattle.kept.specs.Kept.{put}
use Rattle.planner.specs.Least.{Plan, Least}
use Rattle.planner.specs.Search.{Best, Nowhere}
use Rattle.planner.proofs.Gone.{fault-agree, put-stood, Gone, gone-start, gone-next, gone-column, gone-all, found, whole}
use Rattle.planner.proofs.Least.{least-plan, no-plan}
use Rattle.planner.proofs.Order.{put-agree}
use Rattle.std.specs.Prelude.{Err, Ok}
use Rattle.rules.specs.Refusal.{Fault}

-- ---- the first answer among the base rows from r on, and among the columns from c on
abbrev scan-rows : (ℕ → ℕ → Option (List ℕ)) → ℕ → ℕ → ℕ → Option (List ℕ)
scan-rows f c r zero = none
scan-rows f c r (suc rest) = elim (f c r) [ some u ↦ some u | none ↦ scan-rows f c (r + 1) rest ]

abbrev scan-columns : (ℕ → ℕ → Option (List ℕ)) → ℕ → ℕ → ℕ → Option (List ℕ)
scan-columns f rows c zero = none
scan-columns f rows c (suc rest) = elim (scan-rows f c 0 rows) [ some u ↦ some u | none ↦ scan-columns f rows (c + 1) rest ]

-- where message k has no fault, what f finds behind it
abbrev attempt : (List ℕ → Option (List ℕ)) → List ℕ → List ℕ → ℕ → ℕ → ℕ → Option (List ℕ)
attempt f p v k c r = elim (fault p (put v k c r) k) [ Ok tt ↦ f (put v k c r) | Err q ↦ none ]

-- the placements of m messages from message k on
abbrev seek : List ℕ → ℕ → ℕ → List ℕ → Option (List ℕ)
seek p zero k v = some v
seek p (suc m) k v = scan-columns (attempt (λ w. seek p m (k + 1) w) p v k) (repeat p k) 0 (columns p)

-- and of all
abbrev pub run : List ℕ → Option (List ℕ)
run p = seek p (messages p) 0 (replicate (proposal_words p) 0)

-- ---- what a scan up to column c and base row r tells: the least of all, or that nothing without a fault is before
abbrev Scanned : List ℕ → ℕ → List ℕ → ℕ → ℕ → Option (List ℕ) → Type 0
Scanned p k v c r (some u) = Best (Stand p (messages p)) (messages p) k v u
Scanned p k v c r none = Gone (Stand p (messages p)) k v c r

abbrev Sought : List ℕ → ℕ → List ℕ → Option (List ℕ) → Type 0
Sought p k v (some u) = Best (Stand p (messages p)) (messages p) k v u
Sought p k v none = Nowhere (Stand p (messages p)) k v

module _ (p : List ℕ) (k : ℕ) (v : List ℕ) where
  then : (o x : Option (List ℕ)) (c r c' r' : ℕ) → Scanned p k v c r o → (Gone (Stand p (messages p)) k v c r → Scanned p k v c' r' x)
      → Scanned p k v c' r' (elim o [ some u ↦ some u | none ↦ x ])
  then (some u) x c r c' r' B f = B
  then none x c r c' r' G f = f G

  module _ (f : ℕ → ℕ → Option (List ℕ)) (each : (c r : ℕ) → Gone (Stand p (messages p)) k v c r → Scanned p k v c (r + 1) (f c r)) where
    rows_right : (c r rest : ℕ) → Gone (Stand p (messages p)) k v c r → Scanned p k v c (r + rest) (scan-rows f c r rest)
    rows_right c r zero G = rw add-zero G
    rows_right c r (suc rest) G =
        then (f c r) (scan-rows f c (r + 1) rest) c (r + 1) c (r + suc rest) (each c r G) λ H.
        let e : r + 1 + rest ≡ r + suc rest = omega arith in
        subst (λ (q : ℕ). Scanned p k v c q (scan-rows f c (r + 1) rest)) e (rows_right c (r + 1) rest H)

    columns-right : (c rest : ℕ) → k < messages p → Gone (Stand p (messages p)) k v c 0 → Scanned p k v (c + rest) 0 (scan-columns f (repeat p k) c rest)
    columns-right c zero h G = rw add-zero G
    columns-right c (suc rest) h G =
        then (scan-rows f c 0 (repeat p k)) (scan-columns f (repeat p k) (c + 1) rest) c (0 + repeat p k) (c + suc rest) 0 (rows_right c 0 (repeat p k) G) λ H.
        let e : c + 1 + rest ≡ c + suc rest = omega arith in
        subst (λ (q : ℕ). Scanned p k v q 0 (scan-columns f (repeat p k) (c + 1) rest)) e
        (columns-right (c + 1) rest h (gone-column (Stand p (messages p)) k v c (0 + repeat p k) (repeat p k) (λ w S. (stands S k h).row_below) (omega arith) H))

  finish : (o : Option (List ℕ)) (c : ℕ) → k < messages p → columns p ≤ c → Scanned p k v c 0 o → Sought p k v o
  finish (some u) c h e B = B
  finish none c h e G = gone-all (Stand p (messages p)) k v c (columns p) (λ w S. (stands S k h).column-below) e G

  attempt-right : (f : List ℕ → Option (List ℕ)) → k < messages p → Gives v k
      → ((c r : ℕ) → fault p (put v k c r) k ≡ Ok tt → Sought p (k + 1) (put v k c r) (f (put v k c r)))
      → (c r : ℕ) → Gone (Stand p (messages p)) k v c r → Scanned p k v c (r + 1) (attempt f p v k c r)
  attempt-right f h room behind c r G = go (fault p (put v k c r) k) refl
    where
      deep : (o : Option (List ℕ)) → Sought p (k + 1) (put v k c r) o → Scanned p k v c (r + 1) o
      deep (some u) B = found (Stand p (messages p)) k v (messages p) c r _ h room refl B (λ ec er S. S) (λ x S ec er. S) G
      deep none N = gone-next (Stand p (messages p)) k v c r G λ w S g ec er. N.none w S (put-agree v k c r room g ec er)

      go : (x : Fault) → fault p (put v k c r) k ≡ x → Scanned p k v c (r + 1) (elim x [ Ok tt ↦ f (put v k c r) | Err q ↦ none ])
      go (Ok tt) e = deep (f (put v k c r)) (behind c r e)
      go (Err q) e = gone-next (Stand p (messages p)) k v c r G λ w S g ec er. bad-not-clear (fault-agree p k (put-agree v k c r room g ec er) ∙ S.each k h) e

seek-right : (p : List ℕ) (m k : ℕ) (v : List ℕ) → k + m ≡ messages p → proposal_words p ≤ length v → Stand p k v → Sought p k v (seek p m k v)
seek-right p zero k v e room S = whole (Stand p (messages p)) k v (messages p) (omega arith) record { each = λ j l. S.each j (omega arith) }
seek-right p (suc m) k v e room S =
    finish p k v (seek p (suc m) k v) (0 + columns p) (omega arith) (omega arith)
    (columns-right p k v (attempt (λ w. seek p m (k + 1) w) p v k)
    (attempt-right p k v (λ w. seek p m (k + 1) w) (omega arith) (omega arith) λ c r f.
    seek-right p m (k + 1) (put v k c r) (omega arith) (simp length-set room) (put-stood p v k c r S f))
    0
    (columns p)
    (omega arith)
    (gone-start (Stand p (messages p)) k v))

run-right : (p : List ℕ) → Sought p 0 (replicate (proposal_words p) 0) (run p)
run-right p = seek-right p (messages p) 0 _ (omega arith) (simp length-replicate (omega arith)) (record { each = λ j l. absurd (omega arith) })

-- ---- the planner's answer, by running it
pub run-least : (p w : List ℕ) → WellFormed p → run p ≡ some w → length w ≡ proposal_words p → Least p w
run-least p w wf e l =
    let z : List ℕ = replicate (proposal_words p) 0 in
    subst (λ (x : List ℕ). Least p x) (take_all (proposal_words p) w (omega arith))
    (least-plan wf z w (simp length-replicate (omega arith)) (subst (λ (o : Option (List ℕ)). Sought p 0 z o) e (run-right p)))

pub run_none : (p : List ℕ) → WellFormed p → run p ≡ none → (w : List ℕ) → Plan p w → ⊥
run_none p wf e =
    let z : List ℕ = replicate (proposal_words p) 0 in
    no-plan wf {z = z} (subst (λ (o : Option (List ℕ)). Sought p 0 z o) e (run-right p))
