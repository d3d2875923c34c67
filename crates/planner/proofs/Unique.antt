-- The promises settle the answer: two that one allows are equal, with what they leave in the buffer; and 14 is given exactly where there is no plan, or none that keeps what is kept.
use Prim.Native.Nat.{ℕ, ◌*◌}
use mathlib.Core.Path.{◌≡◌, refl, sym, ap, subst, ◌∙◌}
use mathlib.Core.List.{List, []}
use mathlib.Core.Logic.{◌↔◌}
use native.Mathlib.Omega.{arith}
use lib.ListN.{length}
use Rattle.rules.specs.declared.Paper.{Paper}
use Rattle.rules.specs.Paper.{Answers, Answer, paper}
use Rattle.rules.specs.Problem.{messages}
use Rattle.problem.specs.File.{words_of}
use Rattle.rules.proofs.Faults.{bad-not-clear}
use Rattle.rules.proofs.Told.{answers_one}
use Rattle.planner.specs.Least.{Plan, LeastOf, Least, PlanKeeping}
use Rattle.planner.specs.Promise.{Chosen, refused, none, planned, Planning, Replanning}
use Rattle.planner.proofs.Order.{antisym, agree-eq}
use Rattle.std.specs.Prelude.{Err, Ok}
use Rattle.rules.specs.Refusal.{Fault}

-- proposals for n messages have their words
abbrev Whole : (List ℕ → Type 0) → ℕ → Type 0
Whole A n = (w : List ℕ) → A w → length w ≡ 2 * n

plan-whole : (p : List ℕ) → Whole (Plan p) (messages p)
plan-whole p w h = h.in-range.words

keeping-whole : (p k : List ℕ) → Whole (PlanKeeping p k) (messages p)
keeping-whole p k w h = h.plan.in-range.words

-- the least of them is one
one-least : {A : List ℕ → Type 0} {n : ℕ} {v w : List ℕ} → Whole A n → LeastOf A n v → LeastOf A n w → v ≡ w
one-least {n = n} {v} {w} long a b = agree-eq n v w (long v a.plan) (long w b.plan) (antisym n v w (a.least w b.plan) (b.least v a.plan))

pub least-one : {p v w : List ℕ} → Least p v → Least p w → v ≡ w
least-one {p} = one-least (plan-whole p)

chosen-one : {A : List ℕ → Type 0} {n : ℕ} → Whole A n → {x : Fault} {d e f : List ℕ} {r s : Answer} → Chosen A n x d e r → Chosen A n x d f s → (r ≡ s) × (e ≡ f)
chosen-one long {d = d} {f = f} {s = s} (refused q a h) (refused t b g) = let c : Err t ≡ Err q = sym b ∙ a in answers_one h (subst (λ (x : Fault). Answers x [] d f s) c g)
chosen-one long (refused q a h) (none b n g) = bad-not-clear b a
chosen-one long (refused q a h) (planned b w l g) = bad-not-clear b a
chosen-one long (none a n h) (refused t b g) = bad-not-clear a b
chosen-one long (none a n h) (none b m g) = answers_one h g
chosen-one long (none a n h) (planned b w l g) = absurd (n w l.plan)
chosen-one long (planned a v k h) (refused t b g) = bad-not-clear a b
chosen-one long (planned a v k h) (none b m g) = absurd (m v k.plan)
chosen-one long {d = d} {f = f} {s = s} (planned a v k h) (planned b w l g) = answers_one h (subst (λ (w : List ℕ). Answers (Ok tt) w d f s) (one-least long l k) g)

pub planning-one : {f d e g : List ℕ} {r s : Answer} → Planning f d e r → Planning f d g s → (r ≡ s) × (e ≡ g)
planning-one {f} a b = chosen-one (plan-whole (words_of f)) a.answered b.answered

pub replanning-one : {f k d e g : List ℕ} {r s : Answer} → Replanning f k d e r → Replanning f k d g s → (r ≡ s) × (e ≡ g)
replanning-one {f} {k} a b = chosen-one (keeping-whole (words_of f) k) a.answered b.answered

-- where nothing is wrong before, 14 says exactly that none of the proposals sought is there
pub none-exactly : {A : List ℕ → Type 0} {n : ℕ} {d e : List ℕ} {r : Answer} → Chosen A n (Ok tt) d e r → ((paper r).number ≡ 14) ↔ ((w : List ℕ) → A w → ⊥)
none-exactly (refused q a h) = bad-not-clear refl a
none-exactly (none a n h) = (λ _. n, λ _. ap (λ (q : Paper). q.number) h.paper-is)
none-exactly (planned a w l h) = (λ e. absurd (let z = ap (λ (q : Paper). q.number) h.paper-is in omega arith), λ n. absurd (n w l.plan))
