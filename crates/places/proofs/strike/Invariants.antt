-- The words of the messages passed, and of the base rows passed of this one, are without what meets message m. Of this one the rows that meet it are as far apart
-- as the smaller repeat says, so that each step passes them up to the next.
use Rattle.std.proofs.Common.{◌≡◌, ◌%◌, min}
use Rattle.basics.specs.Bits.{Has}
use Rattle.rules.specs.Problem.{most_rows}
use Rattle.places.specs.Places.{Spared}
use Rattle.places.proofs.Tables.{Row, Made}
use Rattle.places.proofs.strike.Given as goal

abbrev pub invariant-loop-i : goal.invariant-loop-i
invariant-loop-i l = (l.i % l.common ≡ l.r % l.common) × Row (Spared l.p l.m l.c l.r l.j) l.j (min l.i most_rows) l.initial.table l.table

abbrev pub invariant-loop-j : goal.invariant-loop-j
invariant-loop-j l = Made l.p (λ k i x z. Has l.left k → Spared l.p l.m l.c l.r k i x z) l.j l.initial.table l.table
