-- Laws of what is wrong with a file and with a problem to be held: the chains of refusals by their cases, and what it says that they find nothing.
use Prim.Native.Nat.{ℕ, ◌≤◌}
use mathlib.Core.Path.{◌≡◌}
use mathlib.Core.Bool.{true, not}
use mathlib.Core.List.{List}
use mathlib.Core.Logic.{◌↔◌}
use native.Mathlib.Omega.{arith}
use borrow.Author.Tests.{le-ltb, eq-eqb, ltb-false, eqb-true}
use lib.Dec.{ltb, eqb}
use lib.ListN.{length, get_or}
use Rattle.rules.specs.declared.Refusal.{Refusal}
use Rattle.rules.specs.declared.Refusal.TheVariants.{Length, Mark, Version, Header}
use Rattle.rules.specs.Offsets.{last_byte}
use Rattle.rules.specs.Refusal.{guard, first_fault, Fault}
use Rattle.rules.specs.Problem.{word_count, columns, messages, kind, identifier, Header as HeaderKept, WellFormed}
use Rattle.rules.specs.Rules.{header_fault, words_fault}
use Rattle.rules.proofs.Faults.{clear-guard, clear_both, clear-test, clear_first, first-clear}
use Rattle.rules.proofs.Formed.{header-kept, words-formed}
use Rattle.problem.specs.declared.layout.Layout.{Layout}
use Rattle.problem.specs.declared.layout.Layout.TheVariants.{One, Two}
use Rattle.problem.specs.Layout.{is_version, kind_most, identifier_most}
use Rattle.problem.specs.File.{head_bytes, bytes_for, header_of, version_in, layout_in, columns_in, messages_in, words_in, words_of, Held}
use Rattle.problem.specs.Wrong.{marked, head_fault, file_fault, column_unheld, message_unheld, held_fault}
use Rattle.problem.proofs.File.{length-words}
use Rattle.std.specs.Prelude.{Err, Ok}

-- ---- a file's head, by cases
-- how many bytes a file has by its header
abbrev pub bytes_in : List ℕ → ℕ
bytes_in f = bytes_for (layout_in f) (columns_in f) (messages_in f)

module _ (f : List ℕ) where
  -- the header's words, tested where they were read to
  pub header_read : {l : List ℕ} {x : Fault} → l ≡ header_of f → x ≡ header_fault l → x ≡ header_fault (words_of f)
  unfolding words_in header_fault
  header_read e h = rw e at h

  pub head_clear : head_bytes ≤ length f → marked f ≡ true → is_version (version_in f) ≡ true → {x : Fault} → x ≡ header_fault (words_of f) → x ≡ Ok tt → get_or f last_byte 0 ≡ 0
      → length f ≡ bytes_in f → Ok tt ≡ head_fault f
  unfolding head_fault words_in
  head_clear long mark version tested right last e =
      rw (le-ltb (length f) head_bytes long, mark, version, ← tested, right, eq-eqb (get_or f last_byte 0) 0 last, eq-eqb (length f) (bytes_in f) e)

-- what a head with no fault says of the file
pub record Head (f : List ℕ) : Type 0 where
  pub long : head_bytes ≤ length f
  pub mark : marked f ≡ true
  pub version : is_version (version_in f) ≡ true
  pub header : HeaderKept (words_of f)
  pub last : get_or f last_byte 0 ≡ 0
  pub bytes : length f ≡ bytes_in f
  pub columns-most : columns_in f ≤ 32
  pub messages-most : messages_in f ≤ 64

pub head-right : (f : List ℕ) → head_fault f ≡ Ok tt → Head f
unfolding head_fault words_in
head-right f e =
    let a = clear_both (guard (ltb (length f) head_bytes) Length) _ e in
    let b = clear_both (guard (not (marked f)) Mark) _ a.1 in
    let d = clear_both (guard (not (is_version (version_in f))) Version) _ b.1 in
    let h = clear_both (header_fault (words_of f)) _ d.1 in
    let z = clear_both (guard (not (eqb (get_or f last_byte 0) 0)) (Header last_byte)) _ h.1 in
    let r = (header-kept (words_of f)).0 h.0 in
    record {
      long = ltb-false _ _ (clear-guard _ _ a.0);
      mark = clear-test _ _ b.0;
      version = clear-test _ _ d.0;
      header = r;
      last = eqb-true _ _ (clear-test _ _ z.0);
      bytes = eqb-true _ _ (clear-test _ _ z.1);
      columns-most = r.columns-most;
      messages-most = r.messages-most;
    }

-- ---- a file
module _ (f : List ℕ) where
  pub file-head : (q : Refusal) → head_fault f ≡ Err q → file_fault f ≡ Err q
  unfolding file_fault
  file-head q e = rw e

  pub file-rest : (l : List ℕ) (x : Fault) → head_fault f ≡ Ok tt → l ≡ words_of f → x ≡ words_fault l → file_fault f ≡ x
  unfolding file_fault
  file-rest l x e p q = rw (e, ← p, ← q)

  pub file-parts : file_fault f ≡ Ok tt → (head_fault f ≡ Ok tt) × (words_fault (words_of f) ≡ Ok tt)
  unfolding file_fault
  file-parts e = clear_both (head_fault f) (words_fault (words_of f)) e

  words-in : length (words_of f) ≡ word_count (words_of f)
  unfolding words_in
  words-in = length-words f

  -- The words of a file with no fault are a well-formed problem
  pub file-formed : file_fault f ≡ Ok tt → WellFormed (words_of f)
  file-formed e = let a = file-parts e in words-formed (words_of f) (head-right f a.0).header words-in a.1

-- ---- a layout has room for a problem exactly where nothing is found that it has no room for
pub held_kept : (L : Layout) (p : List ℕ) → (held_fault L p ≡ Ok tt) ↔ Held L p
unfolding held_fault
held_kept L p = (
  λ e.
      let a = clear_both (first_fault (columns p) (column_unheld L p)) _ e in
      record {
        kinds = λ c l. ltb-false _ _ (clear-guard _ _ (clear_first _ _ a.0 c l));
        identifiers = λ j l. ltb-false _ _ (clear-guard _ _ (clear_first _ _ a.1 j l));
      },
  λ h.
      let a : first_fault (columns p) (column_unheld L p) ≡ Ok tt = first-clear _ _ λ c l. rw (le-ltb (kind_most L) (kind p c) (h.kinds c l)) in
      let b : first_fault (messages p) (message_unheld L p) ≡ Ok tt = first-clear _ _ λ j l. rw (le-ltb (identifier_most L) (identifier p j) (h.identifiers j l)) in
      rw (a, b),
)

-- as yet every layout has room for every well-formed problem
pub formed-held : (L : Layout) (p : List ℕ) → WellFormed p → Held L p
formed-held L p f = record {
  kinds = λ c l. omega (arith, (f.column c l).kind-most);
  identifiers = λ j l. let most = (f.identity j l).identifier-most in room L most;
}
  where
    room : (L : Layout) {i : ℕ} → i ≤ 2047 → i ≤ identifier_most L
    room One h = omega arith
    room Two h = omega arith
