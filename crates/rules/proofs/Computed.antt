-- What the functions of src/ compute from the words that they read is what the tests of document 01 say.
use Prim.Native.Nat.{ℕ, ◌+◌, ◌*◌, ◌-◌, ◌%◌, ◌<◌, ◌≤◌, min}
use mathlib.Core.Path.{◌≡◌, sym}
use mathlib.Core.Bool.{Bool, true, false, not, ◌&&◌}
use mathlib.Core.List.{List}
use native.Mathlib.Nat.{mod-eq_of_lt}
use native.Mathlib.Omega.{arith}
use lib.Arith.{digits_lt}
use lib.Dec.{leb, ltb, eqb}
use borrow.Author.Tests.{eq-eqb, ne_eqb, not-true, not-false}
use Rattle.rules.specs.declared.Refusal.TheVariants.{Range, Width, Late}
use Rattle.rules.specs.Problem.{cycle, columns, start, width, period, offset, deadline, lasts, repeat, column, row, Placed}
use Rattle.rules.specs.Tests.{in_range, fits, wait, timely, common, meets, own_fault}
use Rattle.rules.specs.Parts.{Member, Period, First, Wait}
use Rattle.rules.proofs.Digits.{mod-once}
use Rattle.rules.proofs.Bounds.{period-is}
use Rattle.rules.proofs.Columns.{in-cycle}
use Rattle.std.specs.Prelude.{Err, Ok}

-- the first send starts in the message's first period
pub first_below : {p : List ℕ} {j c r : ℕ} → Member p j → Placed p j c r → r * cycle p + start p c < period p j
first_below {p} {j} {c} {r} m h =
    let e = in-cycle p m.formed c h.column-below in
    let w = (m.formed.column c h.column-below).width-least in
    rw (period-is m) (digits_lt h.row_below (omega arith))

pub first_of : {p : List ℕ} {j c r b s : ℕ} → Member p j → Placed p j c r → b ≡ cycle p → s ≡ start p c → First p j c r (r * b + s)
first_of {p} {j} {c} {r} {b} {s} m h eb es =
    let e : r * b + s ≡ r * cycle p + start p c = cc in
    record { is = e; below = omega (arith, first_below m h) }

module _ {p : List ℕ} {j c r t f o : ℕ} (m : Member p j) (h : Placed p j c r) (et : Period p j t) (ef : First p j c r f) (eo : o ≡ offset p j) where
  ahead : f + t - o ≡ r * cycle p + start p c + period p j - offset p j
  ahead = rw (et.is, ef.is, eo)

  pub wait-short : f + t - o < t → Wait p j c r (f + t - o)
  unfolding wait
  wait-short l =
      let e : f + t - o ≡ wait p j c r = sym (rw (← ahead, ← et.is) (mod-eq_of_lt l)) in
      record { is = e; below = omega arith; most = omega arith }

  pub wait-long : t ≤ f + t - o → Wait p j c r (f + t - o - t)
  unfolding wait
  wait-long l =
      let b = ef.below in
      let d = m.timing.offset-below in
      let e : f + t - o - t ≡ wait p j c r = rw (← ahead, ← et.is) (mod-once (f + t - o) t l (omega arith)) in
      record { is = e; below = omega arith; most = omega arith }

module _ {p : List ℕ} {j : ℕ} (m : Member p j) (c r : ℕ) where
  pub range-is : {k n : ℕ} → k ≡ columns p → n ≡ repeat p j → ltb c k && ltb r n ≡ in_range p j c r
  unfolding in_range
  range-is ek en = rw (ek, en)

  pub fits-is : {f w : ℕ} → f ≡ lasts p j → w ≡ width p c → leb f w ≡ fits p j c
  unfolding fits
  fits-is ef ew = rw (ef, ew)

  pub timely-is : {t f d : ℕ} → t ≡ wait p j c r → f ≡ lasts p j → d ≡ deadline p j → leb (t + f) d ≡ timely p j c r
  unfolding timely
  timely-is et ef ed = rw (et, ef, ed)

-- two messages of a proposal
module _ {p : List ℕ} {i j : ℕ} (mi : Member p i) (mj : Member p j) (w : List ℕ) where
  pub meets-not : {k l : ℕ} → k ≡ column w i → l ≡ column w j → (k ≡ l → ⊥) → false ≡ meets p w i j
  unfolding meets
  meets-not ek el h = rw (ne_eqb (column w i) (column w j) (rw (ek, el) at h))

  pub meets-is : {k l a b m r s : ℕ} → k ≡ column w i → l ≡ column w j → k ≡ l → a ≡ repeat p i → b ≡ repeat p j → m ≡ min a b → r ≡ row w i → s ≡ row w j
      → eqb (r % m) (s % m) ≡ meets p w i j
  unfolding meets common
  meets-is ek el h ea eb em er es = rw (er, es, em, ea, eb, eq-eqb (column w i) (column w j) (omega arith))

-- the fault of a message by itself, test by test
module _ {p : List ℕ} {j : ℕ} (m : Member p j) (c r : ℕ) {a : Bool} (ea : a ≡ in_range p j c r) where
  pub own_range : not a ≡ true → Err (Range j) ≡ own_fault p j c r
  unfolding own_fault
  own_range t = rw (← ea, not-true a t)

  module _ (ta : not a ≡ false) {b : Bool} (eb : b ≡ fits p j c) where
    pub own-width : not b ≡ true → Err (Width j) ≡ own_fault p j c r
    unfolding own_fault
    own-width t = rw (← ea, not-false a ta, ← eb, not-true b t)

    module _ (tb : not b ≡ false) {d : Bool} (ed : d ≡ timely p j c r) where
      pub own-late : not d ≡ true → Err (Late j) ≡ own_fault p j c r
      unfolding own_fault
      own-late t = rw (← ea, not-false a ta, ← eb, not-false b tb, ← ed, not-true d t)

      pub own-clear : not d ≡ false → Ok tt ≡ own_fault p j c r
      unfolding own_fault
      own-clear t = rw (← ea, not-false a ta, ← eb, not-false b tb, ← ed, not-false d t)
