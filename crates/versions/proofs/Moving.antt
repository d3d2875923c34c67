-- The promises of up and back settle their answers, and there and back gives the old bytes.
use Prim.Native.Nat.{ℕ, ◌≤◌}
use mathlib.Core.Path.{◌≡◌, sym, ap, ◌∙◌}
use mathlib.Core.List.{List, ◌++◌}
use borrow.Author.Tests.{eq-eqb, le-ltb, eqb-true}
use lib.ListN.{length, take, drop}
use lib.Seq.{take_at}
use Rattle.std.specs.Prelude.{Ok}
use Rattle.basics.proofs.Runs.{Small}
use Rattle.rules.specs.Refusal.{Fault}
use Rattle.rules.specs.Paper.{Answer, Answers}
use Rattle.rules.specs.Problem.{WellFormed}
use Rattle.rules.proofs.Faults.{clear_both, clear-test}
use Rattle.rules.proofs.Told.{answered, told, told-one, answers_one, answers-clear}
use Rattle.problem.specs.declared.layout.Layout.{Layout}
use Rattle.problem.specs.declared.layout.Layout.TheVariants.{One, Two}
use Rattle.problem.specs.Layout.{version, layout_of}
use Rattle.problem.specs.File.{version_in, layout_in, words_of, file_of}
use Rattle.problem.specs.Wrong.{file_fault, held_fault}
use Rattle.problem.proofs.Layouts.{layout-found}
use Rattle.problem.proofs.Wrong.{file-formed, formed-held, held_kept}
use Rattle.problem.proofs.RoundTrip.{write_read, read-written}
use Rattle.versions.specs.Promise.{open_fault, Raising, Lowering}

-- ---- two results that a promise allows are equal
pub up_one : (f : List ℕ) {d e g : List ℕ} {r s : Answer} → Raising f d e r → Raising f d g s → (r ≡ s) × (e ≡ g)
up_one f h k = answers_one h k

pub back_one : (f : List ℕ) {d e g : List ℕ} {r s : Answer} → Lowering f d e r → Lowering f d g s → (r ≡ s) × (e ≡ g)
back_one f h k = answers_one h k

-- ---- there and back
-- a file f of layout L, whose problem is written in layout M as the file g
record Sent (L M : Layout) (f g : List ℕ) : Type 0 where
  clear : open_fault M g ≡ Ok tt
  words : words_of g ≡ words_of f
  back : file_of L (words_of g) ≡ f

sent : (L M : Layout) (f : List ℕ) → Small 256 f → open_fault L f ≡ Ok tt → Sent L M f (file_of M (words_of f))
sent L M f small e =
    let parts = clear_both (file_fault f) _ e in
    let there = write_read f small parts.0 in
    let here = read-written M (words_of f) there.0 (formed-held M (words_of f) there.0) in
    let of : version_in f ≡ version L = eqb-true (version_in f) (version L) (clear-test _ _ parts.1) in
    let layout : layout_in f ≡ L = ap layout_of of ∙ layout-found L in
    record {
      clear = rw (here.0, eq-eqb (version_in (file_of M (words_of f))) (version M) here.2);
      words = here.1;
      back = rw (here.1, ← layout) there.1;
    }

-- what a call wrote that was done
wrote : {x : Fault} {w d e : List ℕ} {n : ℕ} → Answers x w d e (Ok n) → (x ≡ Ok tt) × (take n e ≡ w)
wrote {x} {w} {d} {e} {n} h =
    let c = answers-clear h in
    (c.0, ap (take n) (h.buffer-is ∙ rw c.0) ∙ take_at w (drop (length w) d) n (sym c.1))

-- where nothing is wrong, the file f is written
writes : {x : Fault} {w f d e : List ℕ} {r : Answer} → x ≡ Ok tt → w ≡ f → Answers x w d e r → (r ≡ Ok (length f)) × (e ≡ f ++ drop (length f) d)
writes {f = f} {r = r} c is h =
    (told-one (told r) (answered (length f)) (h.paper-is ∙ rw c) (h.count-is ∙ rw (c, is)), h.buffer-is ∙ rw (c, is))

-- Up and back gives the old bytes
pub up-and-back : (f d e d' e' : List ℕ) {n : ℕ} {r : Answer} → Small 256 f → Raising f d e (Ok n) → length f ≤ length d'
    → Lowering (take n e) d' e' r → (r ≡ Ok (length f)) × (e' ≡ f ++ drop (length f) d')
up-and-back f d e d' e' {n} {r} small h room k =
    let w = wrote h in
    let s = sent One Two f small (clear_both _ _ w.0).0 in
    let g : List ℕ = file_of Two (words_of f) in
    let k' : Lowering g d' e' r = rw w.1 at k in
    let formed : WellFormed (words_of f) = file-formed f (clear_both _ _ (clear_both _ _ w.0).0).0 in
    let held : held_fault One (words_of g) ≡ Ok tt = rw s.words ((held_kept One (words_of f)).1 (formed-held One (words_of f) formed)) in
    writes (rw (s.clear, held, s.back, le-ltb (length d') (length f) room)) s.back k'

-- Back and up gives the old bytes, where back is not refused
pub back-and-up : (f d e d' e' : List ℕ) {n : ℕ} {r : Answer} → Small 256 f → Lowering f d e (Ok n) → length f ≤ length d'
    → Raising (take n e) d' e' r → (r ≡ Ok (length f)) × (e' ≡ f ++ drop (length f) d')
back-and-up f d e d' e' {n} {r} small h room k =
    let w = wrote h in
    let s = sent Two One f small (clear_both _ _ w.0).0 in
    let k' : Raising (file_of One (words_of f)) d' e' r = rw w.1 at k in
    writes (rw (s.clear, s.back, le-ltb (length d') (length f) room)) s.back k'
