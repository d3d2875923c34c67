-- The comparison of the test.
use Rattle.rules.proofs.Computed.{timely-is}
use Rattle.rules.proofs.placing.is_timely.Goals as goal

pub returns : goal.returns
returns c =
    timely-is c.requires.0 c.args.c c.args.r c.wait_of.ensures.is c.frame_of.ensures.is c.deadline_of.ensures.0
