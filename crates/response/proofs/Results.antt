-- The promise of the call: what shows it, and that it settles the answer and every word of the buffer.
use Prim.Native.Nat.{ℕ}
use mathlib.Core.Path.{◌≡◌, sym, ap, ◌∙◌}
use mathlib.Core.List.{List}
use native.Mathlib.Decide.{dec_lt}
use native.Mathlib.Omega.{arith}
use lib.ListN.{length, get_or}
use lib.Seq.{ext_get_or}
use Rattle.rules.specs.declared.Refusal.{Refusal}
use Rattle.rules.specs.Paper.{figure_for, Answer}
use Rattle.rules.specs.declared.Paper.{Paper}
use Rattle.rules.proofs.Told.{told, told-one, done-clear}
use Rattle.response.specs.Events.{count}
use Rattle.response.specs.Times.{Written, met, missed}
use Rattle.response.specs.Promise.{call_fault, zeros, TimesWritten, Responding}
use Rattle.response.specs.Parts.{Ready}
use Rattle.response.proofs.Faults.{clear-ready}
use Rattle.response.proofs.Instances.{response-one}
use Rattle.response.proofs.Filling.{times_none}
use Rattle.std.specs.Prelude.{Err, Ok}
use Rattle.rules.specs.Refusal.{Fault}

-- ---- the code's two ends, with the fault that it found
module _ (e d : List ℕ) {f : Fault} (is : f ≡ call_fault e (length d)) where
  pub responding-refused : {q : Refusal} → f ≡ Err q → Responding e d d (Err q)
  responding-refused {q} h = record {
    paper-is = rw (← is, h);
    misses-is = rw (← is, h);
    times-are = rw (← is, h) (times_none e d);
  }

  pub responding-done : {x : List ℕ} {m : ℕ} → f ≡ Ok tt → TimesWritten e d x (count e) → m ≡ zeros x (count e) → Responding e d x (Ok m)
  responding-done h t z = record { paper-is = rw (← is, h); misses-is = rw (← is, h) z; times-are = rw (← is, h) t }

-- ---- the word of an event is settled
pub written_one : {e : List ℕ} {i x y : ℕ} → Written e i x → Written e i y → x ≡ y
written_one (met t q a b) (met u p c d) = (response-one a c).2
written_one (met t q a b) (missed u p r c d z) = absurd (omega (arith, (response-one a c).2))
written_one (missed t q r a b z) (met u p c d) = absurd (omega (arith, (response-one a c).2))
written_one (missed t q r a b z) (missed u p s c d y) = z ∙ sym y

-- and so is the buffer
module _ {e d x y : List ℕ} {n : ℕ} (a : TimesWritten e d x n) (b : TimesWritten e d y n) where
  word-one : (i : ℕ) → get_or x i 0 ≡ get_or y i 0
  word-one i =
      elim (dec_lt i n) [
        | yes l ↦ written_one (a.each i l) (b.each i l)
        | no h ↦ a.kept i (omega arith) ∙ sym (b.kept i (omega arith))
      ]

  pub times-one : x ≡ y
  times-one = ext_get_or 0 x y (a.as_long ∙ sym b.as_long) (λ i l. word-one i)

-- two results that the promise allows are equal
pub responding-one : {e d x y : List ℕ} {r s : Answer} → Responding e d x r → Responding e d y s → (r ≡ s) × (x ≡ y)
responding-one {e} {d} {x} {y} {r} {s} a b =
    let same : x ≡ y = times-one a.times-are b.times-are in
    let figure : List ℕ → ℕ = λ l. figure_for (call_fault e (length d)) (zeros l (count e)) in
    (told-one (told r) (told s) (a.paper-is ∙ sym b.paper-is) (a.misses-is ∙ ap figure same ∙ sym b.misses-is), same)

-- a refusal leaves the buffer as it was
pub refused-keeps : {e d x : List ℕ} {r : Answer} {q : Refusal} → call_fault e (length d) ≡ Err q → Responding e d x r → x ≡ d
refused-keeps {e} {d} h p = times-one (rw h at p.times-are) (times_none e d)

-- a call that is done had events that keep the rules and have busy periods, and room
pub responding-ready : {e d x : List ℕ} {m : ℕ} → Responding e d x (Ok m) → Ready e (length d)
responding-ready {e} {d} p = clear-ready e (length d) (done-clear (call_fault e (length d)) (ap (λ (t : Paper). t.number) (sym p.paper-is)))
