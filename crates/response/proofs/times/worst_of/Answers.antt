-- The limit is above every response, so the search goes through all instances.
use Rattle.std.proofs.Common.{arith}
use Rattle.response.proofs.Waiting.{sought-worst}
use Rattle.response.proofs.times.worst_of.Goals as goal

pub returns : goal.returns
returns c =
    let span = rw c.unwrap-span.ensures at c.busy_of.ensures in
    sought-worst c.requires.0 span c.worst_within.ensures (omega arith)
