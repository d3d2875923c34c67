-- The messages make a well-formed problem of their own, and the planner says whether it has a plan.
use Rattle.std.proofs.Common.{arith}
use Rattle.rest.proofs.Formed.{part-formed}
use Rattle.crowd.proofs.Walk.{part-decides}
use Rattle.crowd.proofs.have_plan.Goals as goal

pub has_plan-requires : goal.has_plan-requires
has_plan-requires c = record { formed = part-formed c.requires.1 c.requires.0 (omega arith) c.part_of.ensures; most = omega (arith, c.part_of.ensures.count) }

pub returns : goal.returns
returns c = part-decides c.part_of.ensures c.has_plan.result c.has_plan.ensures
