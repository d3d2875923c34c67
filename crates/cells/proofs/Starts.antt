-- Which messages of an accepted proposal start in a cell: at most one.
use Prim.Native.Nat.{ℕ, ◌+◌, ◌*◌, ◌≤◌, ◌<◌}
use mathlib.Core.Path.{◌≡◌, sym, ap, ◌∙◌}
use mathlib.Core.Bool.{true, false}
use mathlib.Core.List.{List}
use native.Mathlib.Nat.{mul-le-mul_right}
use native.Mathlib.Omega.{arith}
use lib.Dec.{T, eqb}
use borrow.Author.Tests.{eq-eqb, eqb-true}
use Rattle.basics.specs.Sums.{sum, only}
use Rattle.basics.proofs.Sums.{only-never, sum-zero, sum-single}
use Rattle.basics.proofs.Tests.{never, some_at, some-on}
use Rattle.rules.specs.Cells.{Here}
use Rattle.rules.specs.Problem.{rows, cycle, columns, messages, start, repeat, column, row}
use Rattle.rules.specs.Sends.{send_at}
use Rattle.rules.specs.Tests.{meets}
use Rattle.rules.proofs.Columns.{in-cycle, one-column}
use Rattle.rules.proofs.Bounds.{member}
use Rattle.rules.proofs.Cells.{cell-meets}
use Rattle.rules.proofs.Digits.{same-digit}
use Rattle.rules.proofs.Meaning.{is-meets}
use Rattle.rules.proofs.Slots.{Slot, slot, send-is}
use Rattle.proposal.specs.Accepted.{Accepted}
use Rattle.proposal.proofs.Sound.{sound, placed}
use Rattle.cells.specs.Cells.{starts_at}

module _ {p w : List ℕ} (a : Accepted p w) where
  pub at : (j : ℕ) → j < messages p → Slot p w j
  at j l = slot p w a.formed j l (placed a j l)

  pub starts-here : (j i c : ℕ) → j < messages p → c < columns p → starts_at p w j i c ≡ true → Here p w j i c
  unfolding starts_at
  starts-here j i c l lc h =
      let s = at j l in
      let n = some_at (rows p) (λ n. eqb (send_at p w j n) (i * cycle p + start p c)) h in
      let e = eqb-true _ _ n.2 in
      let f = sym (send-is p w j s n.0) ∙ e in
      let inside = in-cycle p a.formed c lc in
      let wide = (a.formed.column c lc).width-least in
      let q : row w j + n.0 * repeat p j ≡ i = same-digit (cycle p) _ (start p (column w j)) i (start p c) (omega arith) (omega arith) f in
      let same : start p (column w j) ≡ start p c = omega (arith, ap (◌* cycle p) q) in
      record {
        same-column = one-column p a.formed (column w j) c (start p c) s.placed.column-below lc (omega arith) (omega arith) (omega arith) (omega arith);
        turn = n.0;
        same_row = q;
      }

  pub none_here : (j i c : ℕ) → j < messages p → c < columns p → ¬ Here p w j i c → starts_at p w j i c ≡ false
  none_here j i c l lc h = never (starts_at p w j i c) (λ e. h (starts-here j i c l lc e))

  -- one of its first R sends, since it is sent every row at most
  pub turn_below : (j i c : ℕ) → j < messages p → i < rows p → (h : Here p w j i c) → h.turn < rows p
  turn_below j i c l li h = let s = at j l in omega (arith, mul-le-mul_right {m = 1} {n = repeat p j} h.turn (omega (arith, s.placed)), h.same_row)

  pub here-starts : (j i c : ℕ) → j < messages p → i < rows p → Here p w j i c → starts_at p w j i c ≡ true
  unfolding starts_at
  here-starts j i c l li h =
      let s = at j l in
      let e : send_at p w j h.turn ≡ i * cycle p + start p c = rw (send-is p w j s h.turn, h.same_row, h.same-column) in
      some-on (rows p) h.turn (λ n. eqb (send_at p w j n) (i * cycle p + start p c)) (turn_below j i c l li h) (eq-eqb _ _ e)

  -- ---- at most one message starts in a cell
  meeting : (j k i c : ℕ) → j < messages p → k < messages p → Here p w j i c → Here p w k i c → T (meets p w j k)
  meeting j k i c lj lk h g = is-meets p w j k (cell-meets (member a.formed lj) (member a.formed lk) h g)

  pub one-holder : (j k i c : ℕ) → j < messages p → k < messages p → Here p w j i c → Here p w k i c → j ≡ k
  one-holder j k i c lj lk h g =
      let not-before : ¬ (j < k) = λ l. ((sound a).each k lk).clear j l (meeting j k i c lj lk h g) in
      let not_behind : ¬ (k < j) = λ l. ((sound a).each j lj).clear k l (meeting k j i c lk lj g h) in
      omega arith

  -- a sum over the messages that start in a cell has one term, or none
  module _ (i c n : ℕ) (f : ℕ → ℕ) (lc : c < columns p) (ln : n ≤ messages p) where
    pub one-term : (j : ℕ) → j < n → starts_at p w j i c ≡ true → sum n (λ k. only (starts_at p w k i c) (f k)) ≡ f j
    one-term j l h =
        sum-single n (λ k. only (starts_at p w k i c) (f k)) j l
        (λ k m q. only-never (starts_at p w k i c) (f k)
        (λ e. q (one-holder k j i c (omega arith) (omega arith) (starts-here k i c (omega arith) lc e) (starts-here j i c (omega arith) lc h))))
        ∙ rw h

    pub no-term : ((j : ℕ) → j < n → starts_at p w j i c ≡ false) → sum n (λ k. only (starts_at p w k i c) (f k)) ≡ 0
    no-term h = sum-zero n (λ k. only (starts_at p w k i c) (f k)) (λ k l. rw (h k l))
