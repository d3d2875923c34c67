-- A problem file is cut to the room that there is for it.
use Rattle.std.proofs.Common.{arith}
use Rattle.files.proofs.input.problem.Goals as goal

pub returns-then-ends_with : goal.returns-then-ends_with
returns-then-ends_with g c = (omega (arith, c.within.ensures.front.1, c.within.ensures.most), omega arith)
