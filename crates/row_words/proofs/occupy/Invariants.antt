-- In the rows before i the column is set and no other word is changed, and `seen` has every column that was set in one of them; i is one of the rows
-- r, r + step, .. and rises by a step until it leaves the matrix.
use Rattle.row_words.proofs.Marks.{Marking}
use Rattle.row_words.proofs.occupy.Given as goal

abbrev pub invariant-loop-i : goal.invariant-loop-i
invariant-loop-i l = Marking l.initial.taken l.c l.r l.step l.rows l.i l.seen l.taken
