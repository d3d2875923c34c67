-- The reader's promise settles its result, and reading what is written gives the words back.
use Prim.Native.Nat.{ℕ, ◌≤◌}
use mathlib.Core.Path.{◌≡◌, ◌∙◌}
use mathlib.Core.List.{List, ◌++◌}
use borrow.Author.Tests.{le-ltb}
use lib.ListN.{length, drop}
use Rattle.rules.specs.Problem.{WellFormed}
use Rattle.rules.proofs.Told.{answered, told, told-one, answers_one}
use Rattle.problem.specs.declared.layout.Layout.{Layout}
use Rattle.problem.specs.File.{file_of, Held}
use Rattle.problem.specs.Callers.{narrow, said_of}
use Rattle.problem.proofs.RoundTrip.{read-written, layout-forth}
use Rattle.reader.specs.Promise.{read_fault, Reading}
use Rattle.std.specs.Prelude.{Ok}
use Rattle.rules.specs.Paper.{Answer}

-- Two results that the promise allows are equal
pub read_one : (f d e e' : List ℕ) (r r' : Answer) → Reading f d e r → Reading f d e' r' → (r ≡ r') × (e ≡ e')
read_one f d e e' r r' h k = answers_one h k

-- The file of a well-formed problem, of a version that has room for it, is read as its words in that version, wherever there is room for them
pub reads-written : (L : Layout) (p d e : List ℕ) (r : Answer) → WellFormed p → Held L p → length (narrow L p) ≤ length d
    → Reading (file_of L p) d e r → (r ≡ Ok (length (narrow L p))) × (e ≡ narrow L p ++ drop (length (narrow L p)) d)
reads-written L p d e r f held l h =
    let b = read-written L p f held in
    let s : said_of (file_of L p) ≡ narrow L p = rw (b.1, layout-forth L p f held) in
    let x : read_fault (file_of L p) (length d) ≡ Ok tt = rw (b.0, s, le-ltb (length d) (length (narrow L p)) l) in
    (told-one (told r) (answered (length (narrow L p))) (h.paper-is ∙ rw x) (h.count-is ∙ rw (x, s)), h.buffer-is ∙ rw (x, s))
