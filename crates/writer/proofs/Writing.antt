-- What the writer's promises say of each answer, and of the words of a caller that stand in a buffer.
use Prim.Native.Nat.{ℕ, ◌<◌, ◌≤◌}
use mathlib.Core.Path.{◌≡◌, sym, ◌∙◌}
use mathlib.Core.List.{List, ◌++◌}
use native.Mathlib.Omega.{arith}
use borrow.Author.Tests.{lt-ltb, le-ltb}
use lib.ListN.{length, take, drop}
use lib.Seq.{take_at}
use Rattle.std.specs.Prelude.{Err, Ok}
use Rattle.rules.specs.declared.Refusal.{Refusal}
use Rattle.rules.specs.declared.Refusal.TheVariants.{Room}
use Rattle.rules.specs.Refusal.{Fault}
use Rattle.rules.specs.Paper.{Answer}
use Rattle.rules.specs.Problem.{words_for, most_words, columns, messages, WellFormed}
use Rattle.rules.specs.Rules.{words_fault}
use Rattle.problem.specs.declared.layout.Layout.{Layout}
use Rattle.problem.specs.File.{file_of, byte_count}
use Rattle.problem.specs.Callers.{column_words, said_for, recast, layout_by, problem_of}
use Rattle.problem.specs.Wrong.{count_fault, problem_fault}
use Rattle.problem.proofs.File.{length-file}
use Rattle.problem.proofs.Callers.{recast-columns, recast-messages, given-right, given-count, given-formed, problem-count, problem-rest}
use Rattle.rules.proofs.Told.{answers-refused, answers-done}
use Rattle.writer.specs.Promise.{Given, Laying, Writing}

-- ---- a well-formed problem is laid into a buffer, or there is no room
module _ (L : Layout) (p d : List ℕ) {n : ℕ} (n-is : n ≡ byte_count L p) where
  bytes-are : length (file_of L p) ≡ n
  bytes-are = length-file L p ∙ sym n-is

  pub laying-short : length d < n → Laying L p d d (Err Room)
  laying-short l = answers-refused Room (rw (bytes-are, lt-ltb (length d) n l))

  pub laying-done : {e : List ℕ} → n ≤ length d → e ≡ file_of L p ++ drop n d → Laying L p d e (Ok n)
  laying-done l w = answers-done (rw (bytes-are, le-ltb (length d) n l)) bytes-are w

-- ---- a caller's words are given, and their problem stands in front of the buffer
module _ {w b : List ℕ} (d : List ℕ) {n k m : ℕ} where
  pub given : {t : ℕ} → count_fault w ≡ Ok tt → k ≡ columns w → m ≡ messages w → t ≡ column_words (layout_by w) → n ≡ words_for k m → most_words ≤ length b
      → b ≡ recast t 3 w ++ drop (said_for 3 k m) d → Given w b n
  given {t} clear ek em et en room put =
      let g = given-right w clear in
      let count : length (problem_of w) ≡ n = given-count w g ∙ rw (en, ek, em, recast-columns (column_words (layout_by w)) 3 w, recast-messages (column_words (layout_by w)) 3 w) in
      let front : take n b ≡ problem_of w = rw (put, et) (take_at (problem_of w) (drop (said_for 3 k m) d) n count) in
      record {
        clear = clear;
        within = omega (arith, en, ek, em, g.header.columns-most, g.header.messages-most);
        front = front;
        counted = rw front (record {
          columns-are = sym (recast-columns (column_words (layout_by w)) 3 w);
          messages-are = sym (recast-messages (column_words (layout_by w)) 3 w);
          words = count ∙ rw (en, ek, em);
          columns-most = g.header.columns-most;
          messages-most = g.header.messages-most;
        });
      }

-- what is wrong with them, x, is found where they stand
module _ {w b : List ℕ} {n : ℕ} (g : Given w b n) {x : Fault} (tested : x ≡ words_fault (take n b)) where
  fault-is : problem_fault w ≡ x
  fault-is = problem-rest w _ x g.clear g.front tested

  pub writing-bad : (d : List ℕ) {q : Refusal} → x ≡ Err q → Writing w d d (Err q)
  writing-bad d {q} h = answers-refused q (rw (fault-is ∙ h))

  module _ (clear : x ≡ Ok tt) where
    pub given-is-formed : WellFormed (take n b)
    given-is-formed = rw g.front (given-formed w (fault-is ∙ clear)).0

    pub writing-laid : {L : Layout} {d e : List ℕ} {r : Answer} → L ≡ layout_by w → Laying L (take n b) d e r → Writing w d e r
    writing-laid is h = rw (fault-is ∙ clear) (rw (is, g.front) at h)

-- what is wrong with their header or their count
pub writing-refused : (w d : List ℕ) {q : Refusal} → count_fault w ≡ Err q → Writing w d d (Err q)
writing-refused w d {q} h = answers-refused q (rw (problem-count w h))
