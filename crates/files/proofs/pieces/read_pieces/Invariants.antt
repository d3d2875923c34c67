-- Each piece reads a byte or more: so many bytes fewer may be read then.
use Rattle.files.specs.Reading.{Reached}
use Rattle.files.proofs.pieces.read_pieces.Given as goal

abbrev pub invariant-loop-more : goal.invariant-loop-more
invariant-loop-more g l = Reached l.bytes l.words l.place.held l.place.count l.place.lines l.place.left

abbrev pub decreases-loop-more : goal.decreases-loop-more
decreases-loop-more g l = l.place.left
