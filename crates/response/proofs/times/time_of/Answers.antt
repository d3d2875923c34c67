-- The search goes as far as the deadline: a response up to it is the longest, and one above it shows that the longest is late.
use Rattle.std.proofs.Common.{arith}
use Rattle.response.proofs.Waiting.{sought-met, sought-missed}
use Rattle.response.proofs.times.time_of.Goals as goal

pub returns-then-deadline-worst : goal.returns-then-deadline-worst
returns-then-deadline-worst c = sought-missed c.requires.0 c.requires.1 c.deadline_of-deadline.ensures.is c.worst_within-worst.ensures (omega arith)

pub returns-else-deadline-worst : goal.returns-else-deadline-worst
returns-else-deadline-worst c = sought-met c.requires.0 c.requires.1 c.deadline_of-deadline.ensures.is c.worst_within-worst.ensures (omega arith)
