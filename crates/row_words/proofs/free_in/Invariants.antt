-- `free` has exactly the columns of x that are set in none of the rows passed, and row is the next of r, r + step, ..
use Rattle.row_words.proofs.Freeing.{Freeing}
use Rattle.row_words.proofs.free_in.Given as goal

abbrev pub invariant-loop-row : goal.invariant-loop-row
invariant-loop-row l = Freeing l.taken l.r l.step l.rows l.x l.row l.free
