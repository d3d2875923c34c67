-- A message more counts if it is not kept.
use Rattle.std.proofs.Common.{arith}
use Rattle.std.proofs.lemmas.Grind.{common_steps}
use Rattle.rest.proofs.Walk.{free-none, free-next}
use Rattle.rest.proofs.free_count.Goals as goal

pub loop-j-init : goal.loop-j-init
loop-j-init c = omega (arith, free-none c.args.kept.now)

pub loop-j-preserved : goal.loop-j-preserved
loop-j-preserved c = grind (arith, common_steps, free-next c.args.kept.now c.loop-j.j)
