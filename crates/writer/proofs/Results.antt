-- The writer's promise settles its result, and writing what is read gives the file back.
use Prim.Native.Nat.{ℕ, ◌≤◌}
use mathlib.Core.Path.{◌≡◌, ap₂, ◌∙◌}
use mathlib.Core.List.{List, ◌++◌}
use borrow.Author.Tests.{le-ltb}
use lib.ListN.{length, drop}
use Rattle.std.specs.Prelude.{Ok}
use Rattle.basics.proofs.Runs.{Small}
use Rattle.rules.specs.Paper.{Answer}
use Rattle.rules.proofs.Told.{answered, told, told-one, answers_one}
use Rattle.problem.specs.File.{layout_in, words_of, file_of}
use Rattle.problem.specs.Callers.{said_of}
use Rattle.problem.specs.Wrong.{file_fault}
use Rattle.problem.proofs.Wrong.{formed-held}
use Rattle.problem.proofs.RoundTrip.{write_read}
use Rattle.problem.proofs.Callers.{told as told-by, formed-given}
use Rattle.writer.specs.Promise.{file_for, write_fault, Writing}

-- Two results that the promise allows are equal
pub write-one : (p d e e' : List ℕ) (r r' : Answer) → Writing p d e r → Writing p d e' r' → (r ≡ r') × (e ≡ e')
write-one p d e e' r r' h k = answers_one h k

-- What a file is read as is written as that file, wherever there is room for it
pub writes-read : (f d e : List ℕ) (r : Answer) → Small 256 f → file_fault f ≡ Ok tt → length f ≤ length d
    → Writing (said_of f) d e r → (r ≡ Ok (length f)) × (e ≡ f ++ drop (length f) d)
writes-read f d e r small c l h =
    let b = write_read f small c in
    let p : List ℕ = words_of f in
    let g = formed-given (layout_in f) p b.0 (formed-held (layout_in f) p b.0) in
    let is : file_for (said_of f) ≡ f = ap₂ file_of (told-by (layout_in f) p b.0) g.1 ∙ b.1 in
    let x : write_fault (said_of f) (length d) ≡ Ok tt = rw (g.0, is, le-ltb (length d) (length f) l) in
    (told-one (told r) (answered (length f)) (h.paper-is ∙ rw x) (h.count-is ∙ rw (x, is)), h.buffer-is ∙ rw (x, is))
