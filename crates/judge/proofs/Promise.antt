-- The promise: what shows it, that it settles the answer, and that the figures of what is accepted sum to the matrix cycle.
use Prim.Native.Nat.{ℕ, ◌+◌, ◌≤◌}
use mathlib.Core.Path.{◌≡◌, refl, sym, ap, ◌∙◌}
use mathlib.Core.List.{List}
use native.Mathlib.Omega.{arith}
use lib.ListN.{take}
use Rattle.std.specs.Prelude.{Result, Ok, Err, IsErrAnd}
use Rattle.rules.specs.declared.Refusal.{Refusal}
use Rattle.rules.specs.declared.Paper.{Paper}
use Rattle.rules.specs.Paper.{paper}
use Rattle.rules.specs.Problem.{matrix}
use Rattle.rules.proofs.Exact.{exact}
use Rattle.rules.proofs.Faults.{bad-not-clear, clear_both, handed}
use Rattle.rules.proofs.Told.{numbered, done-clear, Told, answered, refusing, told-one}
use Rattle.problem.specs.File.{words_of}
use Rattle.problem.proofs.Wrong.{file-formed}
use Rattle.proposal.specs.Accept.{Admitted}
use Rattle.proposal.specs.Accepted.{check_fault, Accepted as Faultless}
use Rattle.proposal.proofs.Accepting.{clear-accepted, admitted-length}
use Rattle.losses.specs.declared.BusTime.{BusTime}
use Rattle.losses.specs.Losses.{FiguresAre}
use Rattle.losses.proofs.Five.{figures-one, figures-sum, reference-some}
use Rattle.judge.specs.Answer.{figures}
use Rattle.judge.specs.Promise.{Judging}

-- a refusal, of the file or of the proposal, that is handed on
refused-judging : {f w : List ℕ} {q : Refusal} → check_fault f w ≡ Err q → Judging f w (Err q)
refused-judging {f} {w} {q} h =
    record {
      paper-is = rw h;
      exactly = λ p r.
          rw (← r.words) (
            λ z. absurd (let n = numbered q in omega arith),
            λ a. bad-not-clear (rw r.clear ((exact (words_of f) w (file-formed f r.clear)).1 a)) h,
          );
      figures-are = rw h (record { reference-is = refl; used-is = refl; in-window-is = refl; empty-is = refl; gaps-is = refl });
    }

pub judging-refused : (f w : List ℕ) (r : Result BusTime Refusal) {q : Refusal} → check_fault f w ≡ Err q → IsErrAnd r (λ u. u ≡ q) → Judging f w r
judging-refused f w r h e = rw (handed e) (refused-judging h)

-- the figures of the words that were read
pub judging-accepted : {f w e : List ℕ} {n : ℕ} {t : BusTime} → Admitted f w e n → FiguresAre (Ok tt) (take n e) w t → Judging f w (Ok t)
judging-accepted {f} {w} a g =
    let parts = clear_both _ _ a.clear in
    record {
      paper-is = rw a.clear;
      exactly = λ p r. rw (← r.words) (λ _. (exact (words_of f) w (file-formed f parts.0)).0 parts.1, λ _. refl);
      figures-are = rw a.clear (rw a.front at g);
    }

pub ruleset judged = (judging-refused, admitted-length)

-- number, places and figures settle the answer
told : (r : Result BusTime Refusal) → Told Ok Err r (paper r) (figures r)
told (Ok t) = answered t
told (Err q) = refusing q _

-- two answers that the promise allows are equal
pub judging-one : {f w : List ℕ} {r s : (Result BusTime Refusal)} → Judging f w r → Judging f w s → r ≡ s
judging-one {r = r} {s = s} a b = told-one (told r) (told s) (a.paper-is ∙ sym b.paper-is) (figures-one a.figures-are b.figures-are)

-- ---- what is accepted
module _ {f w : List ℕ} {t : BusTime} (h : Judging f w (Ok t)) where
  clear : check_fault f w ≡ Ok tt
  clear = done-clear (check_fault f w) (ap (λ (x : Paper). x.number) (sym h.paper-is))

  faultless : Faultless (words_of f) w
  faultless = clear-accepted f w clear

  figures-of : FiguresAre (Ok tt) (words_of f) w t
  figures-of = rw clear at h.figures-are

  -- has figures that sum to the matrix cycle
  pub accepted-sum : t.reference + t.used + t.in_window + t.empty + t.gaps ≡ matrix (words_of f)
  accepted-sum = figures-sum faultless figures-of

  -- and a reference window, so that none is a share of nothing
  pub accepted-some : 1 ≤ t.reference
  accepted-some = reference-some faultless.formed figures-of
