-- What a call wrote is counted by less than 2^32, so that the count fits a word.
use Prim.Native.Nat.{ℕ, ◌*◌, ◌<◌, ◌≤◌}
use mathlib.Core.Path.{◌≡◌, refl, ap, subst}
use mathlib.Core.List.{List}
use native.Mathlib.Nat.{mul-le-mul}
use native.Mathlib.Omega.{arith}
use lib.ListN.{length}
use Rattle.rules.specs.Paper.{Answers, Answer, count_of, paper}
use Rattle.rules.specs.Problem.{columns, messages, WellFormed}
use Rattle.rules.proofs.Faults.{clear_both}
use Rattle.rules.proofs.Told.{answers-clear}
use Rattle.problem.proofs.File.{length-file}
use Rattle.problem.proofs.Wrong.{file-formed}
use Rattle.problem.specs.declared.layout.Layout.{Layout}
use Rattle.problem.specs.declared.layout.Layout.TheVariants.{One, Two}
use Rattle.problem.specs.Layout.{column_size, message_size}
use Rattle.problem.specs.File.{layout_in, words_of, file_of}
use Rattle.problem.specs.Callers.{column_words, layout_by, said_of}
use Rattle.problem.specs.Wrong.{file_fault}
use Rattle.problem.proofs.Layouts.{column-size-most, message-size-most, column-words-are}
use Rattle.problem.proofs.Callers.{recast-length, given-formed}
use Rattle.reader.specs.Promise.{Reading}
use Rattle.writer.specs.Promise.{Writing}
use Rattle.proposal.proofs.Accepting.{clear-accepted}
use Rattle.triggers.specs.Promise.{Listing}
use Rattle.triggers.proofs.Answering.{size-most, lists-size}
use Rattle.bus_log.specs.Promise.{DueWritten}
use Rattle.bus_log.proofs.Results.{due-small}
use Rattle.planner.specs.Least.{Plan}
use Rattle.planner.specs.Promise.{Chosen, refused, none, planned, Planning, Replanning}
use Rattle.versions.specs.Promise.{Raising, Lowering}
use Rattle.std.specs.Prelude.{Err, Ok}
use Rattle.rules.specs.Refusal.{Fault}

-- the file of a well-formed problem is short
file-small : (L : Layout) {p : List ℕ} → WellFormed p → length (file_of L p) < 4294967296
file-small L {p} formed =
    let cs : column_size L * columns p ≤ 5 * 32 = mul-le-mul (column-size-most L) formed.header.columns-most in
    let ms : message_size L * messages p ≤ 20 * 64 = mul-le-mul (message-size-most L) formed.header.messages-most in
    omega (arith, length-file L p, cs, ms)

-- and so are the words of one, as callers see them
said-small : (f : List ℕ) → file_fault f ≡ Ok tt → length (said_of f) < 4294967296
said-small f clear =
    let formed = file-formed f clear in
    let most = (column-words-are (layout_in f)).1 in
    let few : column_words (layout_in f) * columns (words_of f) ≤ 3 * 32 = mul-le-mul most formed.header.columns-most in
    omega (arith, recast-length 3 (column_words (layout_in f)) (words_of f) formed.words, few, formed.header.messages-most)

-- a count is that of the output, or 0
counted-fits : {x : Fault} {w d e : List ℕ} {r : Answer} → (x ≡ Ok tt → length w < 4294967296) → Answers x w d e r → count_of r < 4294967296
counted-fits {x = Ok tt} small h = omega (arith, h.count-is, small refl)
counted-fits {x = Err q} small h = omega (arith, h.count-is)

pub read_fits : (f : List ℕ) {d e : List ℕ} {r : Answer} → Reading f d e r → count_of r < 4294967296
read_fits f h = counted-fits (λ c. said-small f (clear_both _ _ c).0) h

pub write-fits : (w : List ℕ) {d e : List ℕ} {r : Answer} → Writing w d e r → count_of r < 4294967296
write-fits w h = counted-fits (λ c. file-small (layout_by w) (given-formed w (clear_both _ _ c).0).0) h

pub up_fits : (f : List ℕ) {d e : List ℕ} {r : Answer} → Raising f d e r → count_of r < 4294967296
up_fits f h = counted-fits (λ c. file-small Two (file-formed f (clear_both _ _ (clear_both _ _ c).0).0)) h

pub back_fits : (f : List ℕ) {d e : List ℕ} {r : Answer} → Lowering f d e r → count_of r < 4294967296
back_fits f h = counted-fits (λ c. file-small One (file-formed f (clear_both _ _ (clear_both _ _ c).0).0)) h

pub lists-fits : (f : List ℕ) {w d e : List ℕ} {r : Answer} → Listing f w d e r → count_of r < 4294967296
lists-fits f h =
    counted-fits
    (λ c. let fine = clear-accepted f _ (clear_both _ _ c).0 in omega (arith, size-most fine.formed, lists-size fine (h.lists-are c)))
    h.answers

pub due-fits : (f : List ℕ) {w d e : List ℕ} {span : ℕ} {r : Answer} → DueWritten f w span d e r → count_of r < 4294967296
due-fits f {r = Ok n} h = due-small f h
due-fits f {r = Err q} h = omega arith

-- the proposals that are sought are short
chosen-fits : {A : List ℕ → Type 0} {m : ℕ} {x : Fault} {d e : List ℕ} {r : Answer} → (x ≡ Ok tt → (w : List ℕ) → A w → length w < 4294967296) → Chosen A m x d e r → count_of r < 4294967296
chosen-fits small (refused q b a) = omega (arith, a.count-is)
chosen-fits small (none c nothing a) = omega (arith, a.count-is)
chosen-fits small (planned c w least a) = omega (arith, a.count-is, small c w least.plan)

-- and so is each plan of a well-formed problem
plan-small : {p w : List ℕ} → WellFormed p → Plan p w → length w < 4294967296
plan-small formed h = omega (arith, formed.header, h.in-range.words)

pub plan-fits : (f : List ℕ) {d e : List ℕ} {r : Answer} → Planning f d e r → count_of r < 4294967296
plan-fits f h = chosen-fits (λ c w v. plan-small (file-formed f (clear_both _ _ c).0) v) h.answered

pub replan-fits : (f : List ℕ) {k d e : List ℕ} {r : Answer} → Replanning f k d e r → count_of r < 4294967296
replan-fits f h = chosen-fits (λ c w v. plan-small (file-formed f (clear_both _ _ c).0) v.plan) h.answered
