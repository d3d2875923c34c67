-- What stands in front of a buffer after a file's words were read into it, and what the reader's promises then say.
use Prim.Native.Nat.{ℕ, ◌<◌, ◌≤◌}
use mathlib.Core.Path.{◌≡◌, refl, ◌∙◌}
use mathlib.Core.List.{List, ◌++◌}
use native.Mathlib.Omega.{arith}
use borrow.Author.Tests.{lt-ltb, le-ltb}
use lib.ListN.{length, take, drop}
use lib.Seq.{take_at}
use Rattle.rules.specs.declared.Refusal.{Refusal}
use Rattle.rules.specs.declared.Refusal.TheVariants.{Room}
use Rattle.problem.specs.declared.layout.Layout.{Layout}
use Rattle.problem.specs.File.{layout_in, columns_in, messages_in, words_in, words_of}
use Rattle.problem.specs.Callers.{column_words, said_for, recast, said_of}
use Rattle.problem.specs.Wrong.{head_fault, file_fault}
use Rattle.problem.specs.Parts.{Said}
use Rattle.rules.specs.Problem.{words_for, most_words}
use Rattle.rules.specs.Rules.{words_fault}
use Rattle.problem.proofs.File.{length-words}
use Rattle.problem.proofs.Wrong.{Head, file-rest, file-formed}
use Rattle.problem.proofs.Callers.{recast-length}
use Rattle.rules.proofs.Told.{answers-refused, answers-done}
use Rattle.reader.specs.Promise.{Answered, Laid, Opened, Reading}
use Rattle.reader.specs.Parts.{Sized}
use Rattle.std.specs.Prelude.{Err, Ok}
use Rattle.rules.specs.Refusal.{Fault}
use Rattle.rules.specs.Paper.{Answer}

pub head-sized : {L : Layout} (f : List ℕ) (k m : ℕ) → Head f → L ≡ layout_in f → k ≡ columns_in f → m ≡ messages_in f → Sized L f k m
head-sized f k m h l p q =
    record { columns-are = p; messages-are = q; bytes = rw (l, p, q) h.bytes; columns-most = omega arith; messages-most = omega arith }

-- a refusal that is handed on is the fault that was looked for
pub refused-is : {x : Fault} (P : ℕ → Type 0) {r : Answer} {q : Refusal} → Answered x P r → r ≡ Err q → x ≡ Err q
refused-is P h e = rw e at h

-- the words of a file with k columns and m messages, which are n, stand in front of the buffer e
pub laid : {L : Layout} (f w e : List ℕ) (k m n : ℕ) → head_fault f ≡ Ok tt → L ≡ layout_in f → Sized L f k m → most_words ≤ length e
    → e ≡ words_in L f ++ drop (words_for k m) w → n ≡ words_for k m → Laid f e n
unfolding words_in
laid f w e k m n clear layout s l read n-is =
    let put : e ≡ words_of f ++ drop (words_for k m) w = rw layout at read in
    let count : length (words_of f) ≡ n = rw (n-is, s.columns-are, s.messages-are) (length-words f) in
    let front : take n e ≡ words_of f = rw put (take_at (words_of f) (drop (words_for k m) w) n count) in
    record {
      clear = clear;
      within = omega (arith, n-is, s.columns-most, s.messages-most);
      front = front;
      counted = rw front (record {
        columns-are = refl;
        messages-are = refl;
        words = length-words f;
        columns-most = omega (arith, s.columns-most, s.columns-are);
        messages-most = omega (arith, s.messages-most, s.messages-are);
      });
    }

-- where they stand they are tested, which gives x
module _ {f e : List ℕ} {n : ℕ} (a : Laid f e n) {x : Fault} (tested : x ≡ words_fault (take n e)) where
  pub fault-is : file_fault f ≡ x
  fault-is = file-rest f _ x a.clear a.front tested

  pub opened : x ≡ Ok tt → Opened f e n
  opened h =
      let c : file_fault f ≡ Ok tt = fault-is ∙ h in
      record { clear = c; within = a.within; front = a.front; formed = rw a.front (file-formed f c) }

-- and have three for each column
pub opened-said : {f b : List ℕ} {n k m : ℕ} → Opened f b n → k ≡ columns_in f → m ≡ messages_in f → Said (take n b) 3 k m
unfolding words_in
opened-said {f} o ek em =
    let formed = file-formed f o.clear in
    rw o.front (record {
      columns-are = ek;
      words = length-words f ∙ rw (ek, em);
      least = omega arith;
      most = omega arith;
      columns-most = omega (arith, ek, formed.header.columns-most);
      messages-most = omega (arith, em, formed.header.messages-most);
    })

-- ---- the caller's own buffer
module _ (f d b : List ℕ) where
  pub reading-refused : {q : Refusal} → file_fault f ≡ Err q → Reading f d d (Err q)
  reading-refused h = answers-refused _ (rw h)

  -- what callers see of the words, where t are said of each column
  module _ {n t k m c : ℕ} (o : Opened f b n) (et : t ≡ column_words (layout_in f)) (ek : k ≡ columns_in f) (em : m ≡ messages_in f) (ec : c ≡ said_for t k m) where
    said-are : length (said_of f) ≡ c
    unfolding words_in
    said-are = recast-length 3 (column_words (layout_in f)) (words_of f) (file-formed f o.clear).words ∙ rw (ec, et, ek, em)

    pub reading-short : length d < c → Reading f d d (Err Room)
    reading-short l = answers-refused Room (rw (o.clear, said-are, lt-ltb (length d) c l))

    pub reading-done : {e : List ℕ} → c ≤ length d → e ≡ recast 3 t (take n b) ++ drop (said_for t k m) d → Reading f d e (Ok c)
    reading-done l w = answers-done (rw (o.clear, said-are, le-ltb (length d) c l)) said-are (w ∙ rw (o.front, ec, et))
