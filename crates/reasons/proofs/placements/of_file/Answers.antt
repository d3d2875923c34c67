-- A file that is read is long enough for a header.
use Rattle.problem.proofs.Wrong.{head-right, file-parts}
use Rattle.reasons.proofs.placements.of_file.Goals as goal

pub layout_in-requires : goal.layout_in-requires
layout_in-requires g c = (head-right _ (file-parts _ c.in-Ok.ensures.clear).0).long
