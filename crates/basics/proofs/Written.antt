-- What is written piece by piece, each piece by way of the rest of the buffer.
use Prim.Native.Nat.{ℕ, zero, suc, ◌+◌, ◌-◌, ◌≤◌}
use mathlib.Core.Path.{◌≡◌, refl, sym, ap, ◌∙◌}
use mathlib.Core.List.{List, [], ◌++◌}
use native.Mathlib.Omega.{arith}
use borrow.Rule.Slice.PartMut.{put_mid}
use lib.ListN.{length, take, drop, length-append, length-drop}
use Rattle.basics.specs.Runs.{run, Put}
use Rattle.basics.specs.Sums.{sum}
use Rattle.basics.proofs.Runs.{run-split, tail-part, put-tail}

-- ---- a buffer that is written from the front
-- x stands at the front of the buffer d, which then is l, and ends at `at`, inside it
pub record Begins (x d l : List ℕ) (at : ℕ) : Type 0 where
  pub put : Put x d l at
  pub long : length l ≡ length d
  pub inside : at ≤ length d

pub begins : {x d l : List ℕ} {at : ℕ} → Put x d l at → length x ≤ length d → Begins x d l at
begins h r = record {
  put = h;
  long = rw (h.is, length-append, length-drop) (omega (arith, h.count));
  inside = omega (arith, h.count);
}

pub begins-none : (d : List ℕ) → Begins [] d d 0
begins-none d = begins (record { count = refl; is = refl }) (omega arith)

-- a piece more, by way of the rest
module _ {x d l : List ℕ} {at : ℕ} (h : Begins x d l at) {z : List ℕ} (y : List ℕ) (e : z ≡ x ++ y) (room : length z ≤ length d) where
  pub begins-more : {ys : List ℕ} {r : ℕ} → Put y (take (length l - at) (drop at l)) ys r → Begins z d (put_mid at (length l - at) l ys) (at + r)
  begins-more {ys} {r} q =
      let count : at + r ≡ length (x ++ y) = rw length-append (omega (arith, h.put.count, q.count)) in
      begins (rw e (record { count = count; is = put-tail x y d l ys at r h.put.is (sym h.put.count) q.is })) room

  pub room-more : length y ≤ length (take (length l - at) (drop at l))
  room-more = rw (tail-part at l, length-drop) (omega (arith, rw (e, length-append) at room, h.put.count))

-- ---- runs
module _ (g : ℕ → List ℕ) where
  pub length-pieces : (n : ℕ) → length (run n g) ≡ sum n (λ i. length (g i))
  unfolding run sum
  length-pieces zero = refl
  length-pieces (suc n) = length-append (run n g) (g n) ∙ ap (◌+ length (g n)) (length-pieces n)

  -- the first pieces have room where all have
  pub run_room : (n i : ℕ) {m : ℕ} → i ≤ n → length (run n g) ≤ m → length (run i g) ≤ m
  run_room n i l h =
      let e : n ≡ i + (n - i) = omega arith in
      omega (arith, ap (λ (k : ℕ). length (run k g)) e, ap length (run-split g i (n - i)), length-append (run i g) (run (n - i) (λ k. g (i + k))))
