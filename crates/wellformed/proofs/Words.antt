-- Laws of the tests of words, each over plain numbers and lists, as the functions that test them use them.
use Prim.Native.Nat.{ℕ, ◌+◌, ◌*◌, ◌^◌, ◌<◌}
use mathlib.Core.Path.{◌≡◌, sym, ◌∙◌}
use mathlib.Core.Bool.{true, false, ◌&&◌}
use mathlib.Core.List.{List}
use native.Mathlib.Numerals.{add-one}
use native.Mathlib.Omega.{arith}
use borrow.Author.Tests.{eq-eqb, ne_eqb}
use lib.Dec.{leb, eqb}
use Rattle.basics.specs.Bits.{bit}
use Rattle.basics.proofs.Tests.{some-on, some-off}
use Rattle.basics.specs.Sums.{sum, only}
use Rattle.basics.proofs.Sums.{sum-next}
use Rattle.rules.specs.Problem.{messages, start, width, identifier, sender, receivers, earliest, sends, receives, triggers}
use Rattle.rules.specs.Rules.{repeated, on_grid}
use Rattle.problem.specs.Parts.{Counted}
use Rattle.wellformed.specs.Parts.{HasColumn, HasMessage}

-- ---- periods

module _ (r b t : ℕ) where
  pub grid-found : (k p : ℕ) → k < 7 → p ≡ 2 ^ k → leb p r && eqb t (b * p) ≡ true → true ≡ on_grid r b t
  unfolding on_grid
  grid-found k p l e h = sym (some-on 7 k _ l (rw (← e) h))

  pub grid-none : ((k : ℕ) → k < 7 → leb (2 ^ k) r && eqb t (b * 2 ^ k) ≡ false) → false ≡ on_grid r b t
  unfolding on_grid
  grid-none h = sym (some-off 7 _ h)

-- ---- columns
pub earliest-next : (p : List ℕ) (c : ℕ) → start p c + width p c ≡ earliest p (c + 1)
unfolding earliest
earliest-next p c = rw (add-one c)

pub has-column : {p : List ℕ} {k m c : ℕ} → Counted p k m → c < k → HasColumn p c
has-column h l = record { inside = omega arith; few = omega arith }

-- ---- messages
-- a message before one that p has
pub has-earlier : {p : List ℕ} {k j i : ℕ} → HasMessage p k j → i < j → HasMessage p k i
has-earlier m l = record { columns-are = m.columns-are; inside = omega arith; few-columns = m.few-columns; few = omega arith }

pub has-message : {p : List ℕ} {k m j : ℕ} → Counted p k m → j < m → HasMessage p k j
has-message h l = record { columns-are = h.columns-are; inside = omega arith; few-columns = h.columns-most; few = omega arith }

-- ---- identifiers
module _ (p : List ℕ) (j : ℕ) where
  pub repeated-found : {a b : ℕ} (i : ℕ) → i < j → a ≡ identifier p i → b ≡ identifier p j → a ≡ b → true ≡ repeated p j
  unfolding repeated
  repeated-found i l ea eb e = sym (some-on j i _ l (eq-eqb _ _ (sym ea ∙ e ∙ eb)))

  pub not-repeated : {a b : ℕ} (i : ℕ) → a ≡ identifier p i → b ≡ identifier p j → (a ≡ b → ⊥) → eqb (identifier p i) (identifier p j) ≡ false
  not-repeated i ea eb h = ne_eqb _ _ (λ e. h (ea ∙ e ∙ sym eb))

  pub repeated-none : ((i : ℕ) → i < j → eqb (identifier p i) (identifier p j) ≡ false) → false ≡ repeated p j
  unfolding repeated
  repeated-none h = sym (some-off j _ h)

-- ---- triggers
-- what message j needs at node n
abbrev pub needed : List ℕ → ℕ → ℕ → ℕ
needed p n j = only (sends p n j) 1 + only (receives p n j) 1

pub needed-next : (p : List ℕ) (n j : ℕ) {s r a b count : ℕ} → s ≡ sender p j → r ≡ receivers p j → a ≡ only (eqb s n) 1 → b ≡ only (eqb (bit r n) 1) 1
    → count ≡ 1 + sum j (needed p n) → count + a + b ≡ 1 + sum (j + 1) (needed p n)
needed-next p n j es er ha hb h =
    let sent = rw es at ha in
    let received = rw er at hb in
    omega (arith, sum-next j (needed p n), sent, received)

pub triggers-counted : (p : List ℕ) (n m count : ℕ) → m ≡ messages p → count ≡ 1 + sum m (needed p n) → count ≡ triggers p n
unfolding triggers
triggers-counted p n m count e h = rw (← e) h
