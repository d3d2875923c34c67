-- i is one of the rows r, r + step, ..; the loop ends behind the last of them that is in the matrix.
use Rattle.std.proofs.Common.{ℕ, ◌≡◌, refl, arith}
use Rattle.basics.proofs.Strides.{striding-more, striding-all}
use Rattle.cells.specs.Cells.{cell}
use Rattle.cells.proofs.mark.Goals as goal

-- two rows have two cells
cells-apart : (c x y : ℕ) → cell x c ≡ cell y c → x ≡ y
cells-apart c x y e = omega arith

pub returns-2 : goal.returns-2
returns-2 c =
    let marked = c.loop-i.invariant in
    striding-all _ _ (cells-apart _)
    (striding-more _ _ (cells-apart _) marked (omega arith) (omega arith) c.cell_of.ensures.0 (omega (arith, marked.long)) refl refl)
    (omega arith) (omega arith)
