-- A table narrowed again and again.
use Prim.Native.Nat.{ℕ}
use mathlib.Core.List.{List}
use Rattle.places.specs.Places.{Narrowed}

pub narrowed-then : {p a b c : List ℕ} {l : ℕ} → Narrowed p l a b → Narrowed p l b c → Narrowed p l a c
narrowed-then N M = record { keeps = λ w S W. M.keeps w S (N.keeps w S W) }
