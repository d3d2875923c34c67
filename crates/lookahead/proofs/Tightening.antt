-- A table that is narrowed by prices round by round, beside the cells of its places.
use Prim.Native.Nat.{ℕ, ◌≤◌}
use mathlib.Core.List.{List}
use Rattle.rules.specs.Problem.{rows, messages}
use Rattle.places.specs.Places.{Few, Narrowed}
use Rattle.prices.specs.Prices.{worth, Joint, Sums, Owed, Paid}
use Rattle.lookahead.proofs.Narrowing.{narrowed-then}
use Rattle.prices.proofs.Paying.{narrowed, joint-less}

-- the table a comes of e and loses nothing without a fault; u has the cells of its places
pub record Tight (p : List ℕ) (l : ℕ) (e a u : List ℕ) : Type 0 where
  pub keeps : Narrowed p l e a
  pub covers : Joint p a l (rows p) u

-- the places that are too dear go, and the cells may stay
pub tight-paid : {p e a b u y x v : List ℕ} {l t m : ℕ} → Few p → Sums p y x → worth y (rows p) u ≤ m → Owed p a x l (messages p) v t
    → Paid p x l v t m a b → Tight p l e a u → Tight p l e b u
tight-paid F X h O K T = record {
  keeps = narrowed-then T.keeps (narrowed F X T.covers h O K);
  covers = joint-less F K T.covers;
}

-- or are taken anew
pub tight-joint : {p e a u z : List ℕ} {l : ℕ} → Joint p a l (rows p) z → Tight p l e a u → Tight p l e a z
tight-joint J T = record { keeps = T.keeps; covers = J }
