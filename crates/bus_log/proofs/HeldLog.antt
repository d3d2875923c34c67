-- Two answers to a log that the promise allows are equal.
use Rattle.std.proofs.Common.{ℕ, ◌+◌, ◌*◌, ◌<◌, ◌≤◌, ◌≡◌, refl, sym, ap, ap₂, subst, ◌∙◌, List, ◌++◌, length, get_or, take, Ok, Err, Some, arith, take-take, take-add}
use mathlib.Core.List.{append_cancel_left}
use Rattle.rules.specs.declared.Refusal.{Refusal}
use Rattle.rules.specs.Paper.{refused, paper}
use Rattle.rules.specs.Refusal.{Fault}
use Rattle.rules.proofs.Told.{paper-one, not_done}
use Rattle.bus_log.specs.declared.Difference.{Difference}
use Rattle.bus_log.specs.Against.{Held, pair_at, or_nothing, Differing, Against, clean, differs}
use Rattle.bus_log.specs.Promise.{HeldAnswered, hold_fault, Holding}
use Rattle.bus_log.proofs.Determined.{due-one}

-- ---- two differences
-- a pair within a front that two lists share
pub pair-shared : (m i : ℕ) (l x : List ℕ) → i < m → take (2 * m) l ≡ take (2 * m) x → pair_at l i ≡ pair_at x i
pair-shared m i l x h e =
    let front : (n : ℕ) → n ≤ 2 * m → take n l ≡ take n x = λ n k. sym (take-take n (2 * m) l k) ∙ ap (take n) e ∙ take-take n (2 * m) x k in
    let here : take (2 * i) x ++ pair_at l i ≡ take (2 * i) x ++ pair_at x i =
    ap (◌++ pair_at l i) (sym (front (2 * i) (omega arith))) ∙ sym (take-add (2 * i) 2 l) ∙ front (2 * i + 2) (omega arith) ∙ take-add (2 * i) 2 x in
    append_cancel_left (take (2 * i) x) (pair_at l i) (pair_at x i) here

not-before : {x log : List ℕ} {d c : Difference} → Differing x log d → Differing x log c → ¬ (d.index < c.index)
not-before {x} {log} {d} {c} h k l = h.unlike (pair-shared c.index d.index log x l k.agreed)

difference-is : (d c : Difference) → d.index ≡ c.index → d.time ≡ c.time → d.identifier ≡ c.identifier → d ≡ c
difference-is d c ei et en =
    let told : ℕ → ℕ → ℕ → Difference = λ i t n. record { index = i; time = t; identifier = n } in
    ap (λ (i : ℕ). told i d.time d.identifier) ei ∙ ap₂ (told c.index) et en

pub differing-one : {x log : List ℕ} {d c : Difference} → Differing x log d → Differing x log c → d ≡ c
differing-one {x} {log} {d} {c} h k =
    let early = not-before h k in
    let late = not-before k h in
    let same : d.index ≡ c.index = omega (arith, early, late) in
    let told = h.due ∙ ap (λ (i : ℕ). or_nothing (pair_at x i)) same ∙ sym k.due in
    difference-is d c same (ap (λ (l : List ℕ). get_or l 0 0) told) (ap (λ (l : List ℕ). get_or l 1 0) told)

-- ---- two answers
against-one : {x log : List ℕ} {r s : Held} → Against x log r → Against x log s → r ≡ s
against-one (clean e) (clean g) = refl
against-one (clean e) (differs c k) = absurd (k.unlike (ap (λ (l : List ℕ). pair_at l c.index) e))
against-one (differs d h) (clean e) = absurd (h.unlike (ap (λ (l : List ℕ). pair_at l d.index) e))
against-one (differs d h) (differs c k) = ap (λ (x : Difference). Ok (Some x)) (differing-one h k)

refused-one : (q : Refusal) (r : Held) → paper r ≡ refused q → r ≡ Err q
refused-one q (Ok x) e = not_done q e
refused-one q (Err u) e = ap Err (let b : Err u ≡ Err q = paper-one (Err u) (Err q) e in cc)

held_one : (fault : Fault) {p w log : List ℕ} {span : ℕ} {r s : Held} → HeldAnswered fault p w span log r → HeldAnswered fault p w span log s → r ≡ s
held_one (Ok tt) {log = log} {s = s} h k =
    against-one (h.held refl) (subst (λ (x : List ℕ). Against x log s) (due-one (k.due-is refl) (h.due-is refl)) (k.held refl))
held_one (Err q) {r = r} {s = s} h k = refused-one q r h.paper-is ∙ sym (refused-one q s k.paper-is)

-- the theorem: of the same file, proposal, log and span the promise allows one answer
pub holding-one : (f w log : List ℕ) (span : ℕ) {r s : Held} → Holding f w log span r → Holding f w log span s → r ≡ s
holding-one f w log span h k = held_one (hold_fault f w (length log) span) h k
