-- A file that is a problem has a header.
use Rattle.std.proofs.Common.{arith}
use Rattle.problem.proofs.Wrong.{file-parts, head-right}
use Rattle.versions.proofs.open_in.Goals as goal

pub two_bytes-version-requires : goal.two_bytes-version-requires
two_bytes-version-requires c = omega (arith, (head-right _ (file-parts _ c.in_ok-n.ensures.clear).0).long)
