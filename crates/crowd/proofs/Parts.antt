-- Any messages of a problem make a problem of their own; some of these make one of theirs, and where the one has a plan the other has.
use Prim.Native.Nat.{ℕ, zero, suc, ◌+◌, ◌*◌, ◌-◌, ◌/◌, ◌%◌, ◌<◌, ◌≤◌}
use mathlib.Core.Path.{◌≡◌, refl, sym, ap, ap₂, subst, ◌∙◌}
use mathlib.Core.List.{List, [], ◌∷◌, ◌++◌}
use mathlib.Core.Logic.{⊎_elim}
use native.Mathlib.Nat.{eq-or-lt_of_le, le_of_suc-le-suc}
use native.Mathlib.Decide.{ℕ_discrete}
use native.Mathlib.Omega.{arith}
use lib.ListN.{length, get_or, length-append, get_or-append}
use lib.Seq.{get_or_at}
use Rattle.basics.proofs.Tests.{below_or}
use Rattle.rules.specs.Problem.{columns, column_at, message_at, words_for, field, WellFormed}
use Rattle.rest.specs.Part.{count_at, message_words, Part, Numbers}
use Rattle.rest.proofs.Formed.{part-formed}
use Rattle.planner.specs.Least.{Plannable}
use Rattle.planner.proofs.Least.{plan-stands, stands-plan}
use Rattle.planner.proofs.Parting.{pick, pick-long, picked, slot-stands}

-- ---- a list of n words, of each of which something is asked
pub record Listed (A : ℕ → ℕ → Type 0) (n : ℕ) : Type 0 where
  pub list : List ℕ
  pub long : length list ≡ n
  pub each : (i : ℕ) → i < n → A i (get_or list i 0)

-- there is one where there is each word
pub listed : (A : ℕ → ℕ → Type 0) (n : ℕ) → ((i : ℕ) → i < n → (x : ℕ) × A i x) → Listed A n
listed A zero f = record { list = []; long = refl; each = λ i l. absurd (omega arith) }
listed A (suc n) f =
    let L = listed A n (λ i l. f i (omega arith)) in
    let x = f n (omega arith) in
    let all = L.list ++ (x.0 ∷ []) in
    record {
      list = all;
      long = length-append L.list (x.0 ∷ []) ∙ omega (arith, L.long);
      each = λ i l. ⊎_elim
          (λ e. subst (λ (j : ℕ). A j (get_or all j 0)) (sym e) (subst (A n) (sym (get_or_at L.list x.0 [] 0 n L.long)) x.1))
          (λ g. subst (A i) (sym (get_or-append L.list (x.0 ∷ []) 0 i (omega (arith, L.long)))) (L.each i g))
          (eq-or-lt_of_le (le_of_suc-le-suc l));
    }

-- ---- word i of the problem that the messages make whose numbers are the first n words of m
record Word (p m : List ℕ) (n i x : ℕ) : Type 0 where
  pub count : i ≡ count_at → x ≡ n
  pub front : i < column_at (columns p) → ¬ (i ≡ count_at) → x ≡ get_or p i 0
  pub records : (s f : ℕ) → f < message_words → i ≡ message_at (columns p) s + f → x ≡ field p (get_or m s 0) f

word : (p m : List ℕ) (n i : ℕ) → (x : ℕ) × Word p m n i x
word p m n i =
    let at = i - column_at (columns p) in
    elim (ℕ_discrete i count_at) [
      | yes e ↦ (n, record { count = λ h. refl; front = λ l u. absurd (u e); records = λ s f l h. absurd (omega arith) })
      | no u ↦ ⊎_elim
          (λ l. (get_or p i 0, record { count = λ h. absurd (u h); front = λ h v. refl; records = λ s f g h. absurd (omega arith) }))
          (λ l. (
            field p (get_or m (at / 7) 0) (at % 7),
            record {
              count = λ h. absurd (u h);
              front = λ h v. absurd (omega arith);
              records = λ s f g h. ap₂ (λ (s f : ℕ). field p (get_or m s 0) f) (omega arith) (omega arith);
            },
          ))
          (below_or i (column_at (columns p)))
    ]

pub record Own (p m : List ℕ) (n : ℕ) : Type 0 where
  pub words : List ℕ
  pub part : Part p m n words

pub own : (p m : List ℕ) (n : ℕ) → Own p m n
own p m n =
    let L = listed (Word p m n) (words_for (columns p) n) (λ i l. word p m n i) in
    record {
      words = L.list;
      part = record {
        long = L.long;
        count = (L.each count_at (omega arith)).count refl;
        front = λ i l u. (L.each i (omega arith)).front l u;
        records = λ s f l g. (L.each (message_at (columns p) s + f) (omega arith)).records s f g refl;
      };
    }

-- ---- where a problem has a plan, some of its messages have one by themselves
pub part-plan : {p m q : List ℕ} {n : ℕ} → WellFormed p → n ≤ 64 → Numbers p m n → Part p m n q → Plannable p → Plannable q
part-plan {p} {m} {q} {n} wf few N Q P = record {
  words = pick P.words m n n;
  plan = stands-plan (part-formed N wf few Q) (pick-long P.words m n n ∙ ap (2 *◌) (sym Q.count))
      (slot-stands N Q (plan-stands wf P.plan) (picked P.words m n));
}
