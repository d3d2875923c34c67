-- The records of every layout go there and back: what the versions differ in by its cases, and the records once.
use Prim.Native.Nat.{ℕ, ◌+◌, ◌*◌, ◌<◌, ◌≤◌}
use mathlib.Core.Path.{◌≡◌, refl, sym, ap, ap₂, ◌∙◌, subst}
use mathlib.Core.Bool.{true}
use mathlib.Core.List.{List, [], ◌∷◌, ◌++◌}
use native.Mathlib.Nat.{mul-le-mul, mul-le-mul_left, mul-suc}
use native.Mathlib.Numerals.{add-one}
use native.Mathlib.Omega.{arith}
use borrow.Author.Tests.{eqb-true}
use lib.Dec.{eqb}
use lib.ListN.{length, get_or, take, drop, drop_of_length-le, length-drop, take-append-drop}
use lib.Seq.{get_or-drop}
use Rattle.basics.specs.Runs.{front}
use Rattle.basics.proofs.Runs.{listed, listed-take, Small, small-drop}
use Rattle.basics.proofs.Tests.{either}
use Rattle.problem.specs.declared.layout.Layout.{Layout}
use Rattle.problem.specs.declared.layout.Layout.TheVariants.{One, Two}
use Rattle.problem.specs.Bytes.{low, high}
use Rattle.problem.specs.Layout.{version, is_version, layout_of, kind_of, kind_bytes, kind_most, identifier_size, identifier_of, identifier_bytes, identifier_most, column_size, column_of, column_bytes, rest_of, rest_bytes, message_size, message_of, message_bytes}
use Rattle.problem.specs.Callers.{column_words}
use Rattle.problem.proofs.Bytes.{low_small, two_back, four-back, high-two, low-two, four-parts}

-- ---- a layout is found by its version
pub layout-found : (L : Layout) → layout_of (version L) ≡ L
layout-found One = refl
layout-found Two = refl

pub version-is : (L : Layout) → is_version (version L) ≡ true
version-is One = refl
version-is Two = refl

pub version-small : (L : Layout) → version L < 65536
version-small One = omega arith
version-small Two = omega arith

pub version-found : (v : ℕ) → is_version v ≡ true → version (layout_of v) ≡ v
version-found v =
    either (eqb v 1) (eqb v 2)
    (λ e. subst (λ (n : ℕ). version (layout_of n) ≡ n) (sym (eqb-true v 1 e)) refl)
    (λ e. subst (λ (n : ℕ). version (layout_of n) ≡ n) (sym (eqb-true v 2 e)) refl)

-- ---- how large the records are
pub column-size-most : (L : Layout) → column_size L ≤ 5
column-size-most One = omega arith
column-size-most Two = omega arith

pub message-size-most : (L : Layout) → message_size L ≤ 20
message-size-most One = omega arith
message-size-most Two = omega arith

pub column-words-are : (L : Layout) → (2 ≤ column_words L) × (column_words L ≤ 3)
column-words-are One = (omega arith, omega arith)
column-words-are Two = (omega arith, omega arith)

-- the step over record c of k, each of so many bytes or words
pub step : (s c k n : ℕ) → s ≤ 20 → k ≤ 64 → c < k → s * k ≤ n → (s * c + s ≤ 1280) × (s * c + s ≤ n)
step s c k n few most l h =
    let m : s * (c + 1) ≤ s * k = mul-le-mul_left s (omega arith) in
    let e : s * (c + 1) ≡ s * c + s = rw (add-one, mul-suc) in
    let b : s * k ≤ 20 * 64 = mul-le-mul few most in
    (omega arith, omega arith)

pub identifier-length : (L : Layout) (x : ℕ) → length (identifier_bytes L x) ≡ identifier_size L
identifier-length One x = refl
identifier-length Two x = refl

pub column-length : (L : Layout) (w : List ℕ) → length (column_bytes L w) ≡ column_size L
column-length One w = refl
column-length Two w = refl

pub message-length : (L : Layout) (w : List ℕ) → length (message_bytes L w) ≡ message_size L
message-length One w = refl
message-length Two w = refl

-- ---- what the versions differ in, from bytes and back
kind-back : (L : Layout) (r : List ℕ) → length r ≡ column_size L → Small 256 r → kind_bytes L (kind_of L r) ≡ drop 4 r
kind-back One r e s = sym (drop_of_length-le r {i = 4} (omega arith))
kind-back Two r e s =
    ap (λ (x : ℕ). x ∷ []) (low_small (get_or r 4 0) (s.each 4) ∙ sym (get_or-drop 4 r 0 0)) ∙ listed 1 (drop 4 r) (length-drop 4 r ∙ omega arith)

identifier-back : (L : Layout) (r : List ℕ) → identifier_size L ≤ length r → Small 256 r → identifier_bytes L (identifier_of L r) ≡ take (identifier_size L) r
identifier-back One r h s = rw (high-two r s 0, low-two r s 0) (listed-take 2 r h)
identifier-back Two r h s = let p = four-parts r s 0 in rw (p.0, p.1, p.2, p.3) (listed-take 4 r h)

-- and to bytes and back
kind-forth : (L : Layout) (x a b c d : ℕ) → x ≤ kind_most L → kind_of L (a ∷ b ∷ c ∷ d ∷ kind_bytes L x) ≡ x
kind-forth One x a b c d h = omega arith
kind-forth Two x a b c d h = low_small x (omega arith)

identifier-forth : (L : Layout) (x : ℕ) (t : List ℕ) → x ≤ identifier_most L → identifier_of L (identifier_bytes L x ++ t) ≡ x
identifier-forth One x t h = two_back x (omega arith)
identifier-forth Two x t h = four-back x (omega arith)

identifier-behind : (L : Layout) (x : ℕ) (t : List ℕ) → drop (identifier_size L) (identifier_bytes L x ++ t) ≡ t
identifier-behind One x t = refl
identifier-behind Two x t = refl

-- ---- a record of bytes as words and back
pub column-back : (L : Layout) (r : List ℕ) → length r ≡ column_size L → Small 256 r → column_bytes L (column_of L r) ≡ r
column-back L r e s =
    rw (high-two r s 0, low-two r s 0, high-two r s 2, low-two r s 2, kind-back L r e s)
    (ap (λ (t : List ℕ). t ++ drop 4 r) (listed-take 4 r (omega arith)) ∙ take-append-drop 4 r)

rest_back : (x : ℕ) (r : List ℕ) → length r ≡ 16 → Small 256 r → rest_bytes (x ∷ rest_of r) ≡ r
rest_back x r e s =
    let p = four-parts r s 4 in
    let o = four-parts r s 8 in
    let d = four-parts r s 12 in
    rw (
      low_small (get_or r 0 0) (s.each 0),
      low_small (get_or r 1 0) (s.each 1),
      high-two r s 2,
      low-two r s 2,
      p.0,
      p.1,
      p.2,
      p.3,
      o.0,
      o.1,
      o.2,
      o.3,
      d.0,
      d.1,
      d.2,
      d.3,
    ) (listed 16 r e)

pub message-back : (L : Layout) (r : List ℕ) → length r ≡ message_size L → Small 256 r → message_bytes L (message_of L r) ≡ r
message-back L r e s =
    let n : ℕ = identifier_size L in
    ap₂ ◌++◌ (identifier-back L r (omega arith) s) (rest_back (identifier_of L r) (drop n r) (length-drop n r ∙ omega arith) (small-drop 256 n r s)) ∙ take-append-drop n r

-- ---- a record of words as bytes and back, where they fit
pub record ColumnFits (L : Layout) (w : List ℕ) : Type 0 where
  pub whole : length w ≡ 3
  pub start : get_or w 0 0 ≤ 65535
  pub width : get_or w 1 0 ≤ 65535
  pub kind : get_or w 2 0 ≤ kind_most L

pub record MessageFits (L : Layout) (w : List ℕ) : Type 0 where
  pub whole : length w ≡ 7
  pub identifier : get_or w 0 0 ≤ identifier_most L
  pub sender : get_or w 1 0 ≤ 255
  pub size : get_or w 2 0 ≤ 255
  pub receivers : get_or w 3 0 ≤ 65535
  pub period : get_or w 4 0 ≤ 4294967295
  pub offset : get_or w 5 0 ≤ 4294967295
  pub deadline : get_or w 6 0 ≤ 4294967295

pub column-forth : (L : Layout) (w : List ℕ) → ColumnFits L w → column_of L (column_bytes L w) ≡ w
column-forth L w h =
    rw (two_back (get_or w 0 0) (omega (arith, h.start)), two_back (get_or w 1 0) (omega (arith, h.width)), kind-forth L (get_or w 2 0) (high (get_or w 0 0)) (low (get_or w 0 0)) (high (get_or w 1 0)) (low (get_or w 1 0)) h.kind) (listed 3 w h.whole)

pub message-forth : (L : Layout) (w : List ℕ) → MessageFits L w → message_of L (message_bytes L w) ≡ w
message-forth L w h =
    let t : List ℕ = rest_bytes w in
    let x : ℕ = get_or w 0 0 in
    ap₂ ◌∷◌ (identifier-forth L x t h.identifier) (
    ap rest_of (identifier-behind L x t)
    ∙ rw (
      low_small (get_or w 1 0) (omega (arith, h.sender)),
      low_small (get_or w 2 0) (omega (arith, h.size)),
      two_back (get_or w 3 0) (omega (arith, h.receivers)),
      four-back (get_or w 4 0) (omega (arith, h.period)),
      four-back (get_or w 5 0) (omega (arith, h.offset)),
      four-back (get_or w 6 0) (omega (arith, h.deadline)),
    )
    )
    ∙ listed 7 w h.whole

-- ---- a column's words as callers see them, and back
pub said-back : (L : Layout) (w : List ℕ) → length w ≡ column_words L → front (column_words L) (front 3 w) ≡ w
said-back One w e = listed 2 w e
said-back Two w e = listed 3 w e

pub said-forth : (L : Layout) (w : List ℕ) → ColumnFits L w → front 3 (front (column_words L) w) ≡ w
said-forth One w h = ap (λ (k : ℕ). get_or w 0 0 ∷ get_or w 1 0 ∷ k ∷ []) (omega (arith, h.kind)) ∙ listed 3 w h.whole
said-forth Two w h = listed 3 w h.whole
