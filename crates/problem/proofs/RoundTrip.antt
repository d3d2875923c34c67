-- Reading what was written gives the words back, writing what was read gives the file back, and a well-formed problem has one file of each version:
-- shown once, for every layout.
use Prim.Native.Nat.{ℕ, ◌+◌, ◌*◌, ◌<◌, ◌≤◌}
use mathlib.Core.Path.{◌≡◌, refl, sym, ap, ◌∙◌}
use mathlib.Core.Bool.{◌&&◌}
use mathlib.Core.List.{List, ◌++◌}
use native.Mathlib.Omega.{arith}
use borrow.Author.Tests.{eqb-true}
use lib.Dec.{eqb}
use lib.ListN.{length, get_or, take, drop}
use Rattle.basics.specs.Runs.{run, piece, front}
use Rattle.basics.proofs.Runs.{there_and_back, get_or-piece, length-piece, listed-take, Small, small-piece}
use Rattle.basics.proofs.Tests.{and-true}
use Rattle.rules.specs.declared.Refusal.{Refusal}
use Rattle.rules.specs.Problem.{column_at, columns, messages, WellFormed}
use Rattle.rules.specs.Rules.{header_fault}
use Rattle.rules.proofs.Bounds.{member, period-most}
use Rattle.rules.proofs.Faults.{bad-not-clear}
use Rattle.rules.proofs.Formed.{header-kept, formed-words}
use Rattle.problem.specs.declared.layout.Layout.{Layout}
use Rattle.problem.specs.Layout.{version, is_version, layout_of, kind_most, identifier_most, column_size, column_of, column_bytes, message_size, message_of, message_bytes}
use Rattle.problem.specs.File.{header_of, version_in, layout_in, columns_in, messages_in, words_in, words_of, header_bytes, file_of, Held}
use Rattle.problem.specs.Wrong.{head_fault, file_fault}
use Rattle.problem.proofs.Bytes.{low_small, two_back, high-two, low-two}
use Rattle.problem.proofs.Layouts.{layout-found, version-is, version-small, version-found, column-length, message-length, column-back, message-back, ColumnFits, MessageFits, column-forth, message-forth}
use Rattle.problem.proofs.File.{length-file}
use Rattle.problem.proofs.Wrong.{bytes_in, head-right, head_clear, file-rest, file-parts, file-formed}
use Rattle.std.specs.Prelude.{Err, Ok}

-- ---- a file with no fault: its bytes, made words and bytes again
module _ (f : List ℕ) (small : Small 256 f) (e : head_fault f ≡ Ok tt) where
  header-back : header_bytes (layout_in f) (words_of f) ≡ take 16 f
  unfolding words_in
  header-back =
      let h = head-right f e in
      let m = and-true (eqb (get_or f 0 0) 84 && eqb (get_or f 1 0) 83) (eqb (get_or f 2 0) 77) h.mark in
      let k = and-true (eqb (get_or f 0 0) 84) (eqb (get_or f 1 0) 83) m.0 in
      rw (
        ← listed-take 16 f h.long,
        version-found (version_in f) h.version,
        eqb-true (get_or f 0 0) 84 k.0,
        eqb-true (get_or f 1 0) 83 k.1,
        eqb-true (get_or f 2 0) 77 m.1,
        high-two f small 3,
        low-two f small 3,
        low_small (get_or f 5 0) (small.each 5),
        high-two f small 6,
        low-two f small 6,
        high-two f small 8,
        low-two f small 8,
        high-two f small 10,
        low-two f small 10,
        low_small (get_or f 12 0) (small.each 12),
        low_small (get_or f 13 0) (small.each 13),
        low_small (get_or f 14 0) (small.each 14),
        h.last,
      )

  bytes_back : file_of (layout_in f) (words_of f) ≡ f
  unfolding file_of words_in
  bytes_back =
      let h = head-right f e in
      let L : Layout = layout_in f in
      let K : ℕ = columns_in f in
      let M : ℕ = messages_in f in
      let a : ℕ = column_size L in
      let b : ℕ = message_size L in
      let cs : List ℕ = run K (λ i. column_bytes L (piece 3 i (drop 7 (words_of f)))) in
      let ms : List ℕ = run M (λ j. message_bytes L (piece 7 j (drop (7 + 3 * K) (words_of f)))) in
      ap (λ (l : List ℕ). l ++ cs ++ ms) header-back
      ∙ there_and_back f (header_of f) 16 a b 7 3 7 K M (column_of L) (message_of L) (column_bytes L) (message_bytes L) refl (λ r. refl) (λ r. refl) h.bytes
      (λ i l. column-back L (piece a i (drop 16 f)) (length-piece a i 16 f K (omega (arith, h.bytes)) l) (small-piece 256 a i 16 f (omega arith) small))
      (λ j l. message-back L (piece b j (drop (16 + a * K) f))
      (length-piece b j (16 + a * K) f M (omega (arith, h.bytes)) l) (small-piece 256 b j (16 + a * K) f (omega arith) small))
      (words_of f)
      refl

-- Writing what was read: the words of a file that is read are well-formed, and their file of its version is that file
pub write_read : (f : List ℕ) → Small 256 f → file_fault f ≡ Ok tt → WellFormed (words_of f) × (file_of (layout_in f) (words_of f) ≡ f)
write_read f small e = (file-formed f e, bytes_back f small (file-parts f e).0)

-- ---- a well-formed problem: its words, made bytes and words again
-- a bound on a word, at its record
field-most : (p : List ℕ) (k i n c d m : ℕ) → c < k → n + (k * i + c) ≡ d → get_or p d 0 ≤ m → get_or (piece k i (drop n p)) c 0 ≤ m
field-most p k i n c d m l q h = rw (get_or-piece k i n p c l, q) h

module _ (L : Layout) (p : List ℕ) (f : WellFormed p) (held : Held L p) where
  header-forth : header_of (file_of L p) ≡ front 7 p
  unfolding file_of
  header-forth =
      let h = f.header in
      rw (
        low_small (get_or p 0 0) (omega arith),
        two_back (get_or p 1 0) (omega arith),
        two_back (get_or p 2 0) (omega arith),
        two_back (get_or p 3 0) (omega arith),
        low_small (get_or p 4 0) (omega arith),
        low_small (get_or p 5 0) (omega arith),
        low_small (get_or p 6 0) (omega arith),
      )

  version-forth : version_in (file_of L p) ≡ version L
  unfolding file_of
  version-forth = two_back (version L) (version-small L)

  pub layout-forth : layout_in (file_of L p) ≡ L
  layout-forth = ap layout_of version-forth ∙ layout-found L

  columns-forth : columns_in (file_of L p) ≡ columns p
  unfolding file_of
  columns-forth = let h = f.header in low_small (get_or p 5 0) (omega arith)

  messages-forth : messages_in (file_of L p) ≡ messages p
  unfolding file_of
  messages-forth = let h = f.header in low_small (get_or p 6 0) (omega arith)

  pub column_fits : (i : ℕ) → i < columns p → ColumnFits L (piece 3 i (drop 7 p))
  column_fits i l =
      let q = f.column i l in
      record {
        whole = length-piece 3 i 7 p (columns p) (omega (arith, f.words)) l;
        start = field-most p 3 i 7 0 (column_at i) 65535 (omega arith) (omega arith) (omega arith);
        width = field-most p 3 i 7 1 (column_at i + 1) 65535 (omega arith) (omega arith) (omega arith);
        kind = field-most p 3 i 7 2 (column_at i + 2) (kind_most L) (omega arith) (omega arith) (held.kinds i l);
      }

  message-fits : (j : ℕ) → j < messages p → MessageFits L (piece 7 j (drop (7 + 3 * columns p) p))
  message-fits j l =
      let q = f.identity j l in
      let t = f.timing j l in
      let m = period-most (member f l) in
      let b : ℕ = 7 + 3 * columns p in
      record {
        whole = length-piece 7 j b p (messages p) (omega (arith, f.words)) l;
        identifier = field-most p 7 j b 0 (b + 7 * j + 0) (identifier_most L) (omega arith) (omega arith) (held.identifiers j l);
        sender = field-most p 7 j b 1 (b + 7 * j + 1) 255 (omega arith) (omega arith) (omega arith);
        size = field-most p 7 j b 2 (b + 7 * j + 2) 255 (omega arith) (omega arith) (omega arith);
        receivers = field-most p 7 j b 3 (b + 7 * j + 3) 65535 (omega arith) (omega arith) (omega arith);
        period = field-most p 7 j b 4 (b + 7 * j + 4) 4294967295 (omega arith) (omega arith) (omega arith);
        offset = field-most p 7 j b 5 (b + 7 * j + 5) 4294967295 (omega arith) (omega arith) (omega arith);
        deadline = field-most p 7 j b 6 (b + 7 * j + 6) 4294967295 (omega arith) (omega arith) (omega arith);
      }

  words_back : words_in L (file_of L p) ≡ p
  unfolding file_of words_in
  words_back =
      let K : ℕ = columns p in
      let M : ℕ = messages p in
      let a : ℕ = column_size L in
      let b : ℕ = message_size L in
      let cs : ℕ → List ℕ = λ k. run k (λ i. column_of L (piece a i (drop 16 (file_of L p)))) in
      let ms : ℕ → ℕ → List ℕ = λ k m. run m (λ j. message_of L (piece b j (drop (16 + a * k) (file_of L p)))) in
      ap (λ (l : List ℕ). l ++ cs (columns_in (file_of L p)) ++ ms (columns_in (file_of L p)) (messages_in (file_of L p))) (header-forth ∙ listed-take 7 p (omega (arith, f.words)))
      ∙ ap (λ (k : ℕ). take 7 p ++ cs k ++ ms k (messages_in (file_of L p))) columns-forth
      ∙ ap (λ (m : ℕ). take 7 p ++ cs K ++ ms K m) messages-forth
      ∙ there_and_back p (header_bytes L p) 7 3 7 16 a b K M (column_bytes L) (message_bytes L) (column_of L) (message_of L)
      refl (column-length L) (message-length L) f.words
      (λ i l. column-forth L _ (column_fits i l)) (λ j l. message-forth L _ (message-fits j l)) (file_of L p) refl

  words-of-file : words_of (file_of L p) ≡ p
  words-of-file = ap (λ (N : Layout). words_in N (file_of L p)) layout-forth ∙ words_back

  header_made : header_fault (words_of (file_of L p)) ≡ Ok tt
  header_made = ap header_fault words-of-file ∙ (header-kept p).1 f.header

  bytes-made : length (file_of L p) ≡ bytes_in (file_of L p)
  bytes-made = length-file L p ∙ rw (layout-forth, columns-forth, messages-forth)

  head-made : head_fault (file_of L p) ≡ Ok tt
  unfolding file_of
  head-made =
      sym (head_clear (file_of L p) (omega (arith, length-file L p)) refl (ap is_version version-forth ∙ version-is L) (sym header_made) refl refl bytes-made)

-- Reading what was written: the file of a well-formed problem that the version has room for is read, and its words are that problem
pub read-written : (L : Layout) (p : List ℕ) → WellFormed p → Held L p → (file_fault (file_of L p) ≡ Ok tt) × (words_of (file_of L p) ≡ p) × (version_in (file_of L p) ≡ version L)
read-written L p f held =
    let b = words-of-file L p f held in
    (file-rest (file_of L p) p (Ok tt) (head-made L p f held) (sym b) (sym (formed-words p f)), b, version-forth L p f held)

-- A well-formed problem has one file of each version: each file that is read as p is the one that is written for it
pub one-file : (p f : List ℕ) → Small 256 f → file_fault f ≡ Ok tt → words_of f ≡ p → f ≡ file_of (layout_in f) p
one-file p f small e q = sym (write_read f small e).1 ∙ ap (file_of (layout_in f)) q

-- A file that is refused is the file of no well-formed problem, in no version that has room for it
pub refused-no-file : (L : Layout) (p f : List ℕ) (q : Refusal) → file_fault f ≡ Err q → WellFormed p → Held L p → file_of L p ≡ f → ⊥
refused-no-file L p f q e w held h = bad-not-clear (ap file_fault (sym h) ∙ (read-written L p w held).0) e
