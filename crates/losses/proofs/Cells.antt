-- The cells of an accepted proposal: what each is held for, and that they come to what the sends come to.
use Prim.Native.Nat.{ℕ, ◌+◌, ◌*◌, ◌-◌, ◌≤◌, ◌<◌}
use mathlib.Core.Path.{◌≡◌, refl, sym, ap, ◌∙◌}
use mathlib.Core.Bool.{Bool, true, false, not}
use mathlib.Core.List.{List}
use native.Mathlib.Nat.{eq_of_mul-eq-mul_right, mul-le-mul_right}
use native.Mathlib.Decide.{dec_lt}
use native.Mathlib.Omega.{arith}
use lib.Arith.{digits_lt}
use lib.Dec.{ltb, eqb}
use borrow.Author.Tests.{lt-ltb, le-ltb, eq-eqb, ne_eqb}
use Rattle.basics.specs.Sums.{sum, only}
use Rattle.basics.proofs.Sums.{only-never, sum_same, sum-zero, sum-single, sum-swap, sum-equal}
use Rattle.basics.proofs.Tests.{not-both, some-on, some-off}
use Rattle.rules.specs.Problem.{rows, cycle, matrix, columns, messages, width, lasts, repeat, column, row}
use Rattle.rules.specs.Sends.{send_at}
use Rattle.rules.proofs.Slots.{send-is}
use Rattle.proposal.specs.Accepted.{Accepted}
use Rattle.proposal.proofs.Sound.{sound}
use Rattle.cells.specs.Cells.{starts_at, occupied}
use Rattle.cells.specs.Table.{starting}
use Rattle.cells.proofs.Starts.{at, starts-here, none_here, turn_below, here-starts, one-term, no-term}
use Rattle.cells.proofs.Owners.{Holder, free, by, starting-holder}
use Rattle.losses.specs.Losses.{used, over_cells}
use Rattle.losses.specs.Parts.{held_by, share, window-part, empty-part}

module _ {p w : List ℕ} (a : Accepted p w) where
  pub fits : (j : ℕ) → j < messages p → lasts p j ≤ width p (column w j)
  fits j l = ((sound a).each j l).alone.fits

  -- ---- a cell by its number x: how long it is held says whether it is occupied, and what is lost in it
  module _ (i c : ℕ) (li : i < rows p) (lc : c < columns p) where
    pub record Cell (x : ℕ) : Type 0 where
      pub held-is : sum (messages p) (λ j. only (starts_at p w j i c) (lasts p j)) ≡ held_by p x
      pub held-most : held_by p x ≤ width p c
      pub lost-is : sum (messages p) (λ j. only (starts_at p w j i c) (width p c - lasts p j)) ≡ share window-part (held_by p x) (width p c)
      pub empty-is : only (not (occupied p w i c)) (width p c) ≡ share empty-part (held_by p x) (width p c)

    by-holder : {x : ℕ} → Holder p w i c x → Cell x
    unfolding occupied
    by-holder (free h) =
        let none : (j : ℕ) → j < messages p → starts_at p w j i c ≡ false = λ j l. none_here a j i c l lc (h j l) in
        record {
          held-is = no-term a i c (messages p) (λ j. lasts p j) lc (omega arith) none;
          held-most = omega arith;
          lost-is = no-term a i c (messages p) (λ j. width p c - lasts p j) lc (omega arith) none;
          empty-is = rw (some-off (messages p) (λ j. starts_at p w j i c) none);
        }
    by-holder (by j l h) =
        let starts = here-starts a j i c l li h in
        let longer : eqb (lasts p j) 0 ≡ false = ne_eqb (lasts p j) 0 (λ q. omega arith) in
        record {
          held-is = one-term a i c (messages p) (λ j. lasts p j) lc (omega arith) j l starts;
          held-most = omega (arith, fits j l, ap (width p) h.same-column);
          lost-is = rw longer (one-term a i c (messages p) (λ j. width p c - lasts p j) lc (omega arith) j l starts);
          empty-is = rw (longer, some-on (messages p) j (λ j. starts_at p w j i c) l starts);
        }

    pub cell-is : Cell (starting p w (messages p) i c)
    cell-is = by-holder (starting-holder a i c li lc)

  abbrev pub held : ℕ → ℕ → ℕ
  held i c = held_by p (starting p w (messages p) i c)

  -- ---- the sends of message j that start in the cycle, send by send and cell by cell
  module _ (j : ℕ) (l : j < messages p) where
    turns : ℕ → ℕ
    turns n = row w j + n * repeat p j

    in-matrix : (n : ℕ) → ltb (send_at p w j n) (matrix p) ≡ ltb (turns n) (rows p)
    unfolding turns
    in-matrix n =
        let s = at a j l in
        let e = send-is p w j s n in
        elim (dec_lt (row w j + n * repeat p j) (rows p)) [
          | yes h ↦
              lt-ltb (send_at p w j n) (matrix p) (rw e (digits_lt h (omega arith)))
              ∙ sym (lt-ltb (row w j + n * repeat p j) (rows p) h)
          | no h ↦
              le-ltb (send_at p w j n) (matrix p) (rw e (omega (arith, mul-le-mul_right {m = rows p} {n = row w j + n * repeat p j} (cycle p) (omega arith))))
              ∙ sym (le-ltb (row w j + n * repeat p j) (rows p) (omega arith))
        ]

    -- of the turns of a message one falls on row i, where it starts there, and else none
    turn-sum : (i : ℕ) → i < rows p → sum (rows p) (λ n. only (eqb (turns n) i) (lasts p j)) ≡ only (starts_at p w j i (column w j)) (lasts p j)
    unfolding turns
    turn-sum i li = go (starts_at p w j i (column w j)) refl
      where
        lc : column w j < columns p
        lc = (at a j l).placed.column-below

        go : (b : Bool) → starts_at p w j i (column w j) ≡ b
            → sum (rows p) (λ n. only (eqb (row w j + n * repeat p j) i) (lasts p j)) ≡ only (starts_at p w j i (column w j)) (lasts p j)
        go true e =
            let h = starts-here a j i (column w j) l lc e in
            let s = at a j l in
            sum-single (rows p) (λ n. only (eqb (row w j + n * repeat p j) i) (lasts p j)) h.turn (turn_below a j i (column w j) l li h)
            (λ k m q. rw (ne_eqb (row w j + k * repeat p j) i (λ z. q (eq_of_mul-eq-mul_right (repeat p j) (omega (arith, s.placed)) k h.turn (omega (arith, h.same_row))))))
            ∙ rw (e, eq-eqb _ _ h.same_row)
        go false e =
            sum-zero (rows p) (λ n. only (eqb (row w j + n * repeat p j) i) (lasts p j))
            (λ k m. rw (ne_eqb (row w j + k * repeat p j) i (λ z. not-both (here-starts a j i (column w j) l li record { same-column = refl; turn = k; same_row = z }) e)))
            ∙ rw e

    -- in row i message j starts in its own column or in none
    own-column : (i : ℕ) → sum (columns p) (λ c. only (starts_at p w j i c) (lasts p j)) ≡ only (starts_at p w j i (column w j)) (lasts p j)
    own-column i =
        sum-single (columns p) (λ c. only (starts_at p w j i c) (lasts p j)) (column w j) (at a j l).placed.column-below
        (λ c lc q. only-never (starts_at p w j i c) (lasts p j) (λ e. q (sym (starts-here a j i c l lc e).same-column)))

    pub sends-cells : sum (rows p) (λ n. only (ltb (send_at p w j n) (matrix p)) (lasts p j)) ≡ over_cells p (λ i c. only (starts_at p w j i c) (lasts p j))
    sends-cells =
        sum_same (rows p) _ _ (λ n m. ap (λ (b : Bool). only b (lasts p j)) (in-matrix n) ∙ sym (sum-equal (rows p) (turns n) (lasts p j)))
        ∙ sum-swap (rows p) (rows p) (λ n i. only (eqb (turns n) i) (lasts p j))
        ∙ sum_same (rows p) _ _ (λ i li. turn-sum i li ∙ sym (own-column i))

  -- what the sends use is what the cells are held for
  pub used-cells : used p w ≡ over_cells p held
  unfolding used
  used-cells =
      sum_same (messages p) _ _ (λ j l. sends-cells j l)
      ∙ sum-swap (messages p) (rows p) (λ j i. sum (columns p) (λ c. only (starts_at p w j i c) (lasts p j)))
      ∙ sum_same (rows p) _ _ (λ i l. sum-swap (messages p) (columns p) (λ j c. only (starts_at p w j i c) (lasts p j)) ∙ sum_same (columns p) _ _ (λ c m. (cell-is i c l m).held-is))
