use Rattle.std.proofs.Common.{arith}
use Rattle.bus_log.proofs.Counts.{counted_none, counted-more, counted-all}
use Rattle.bus_log.proofs.cycle_sends.Goals as goal

pub loop-j-init : goal.loop-j-init
loop-j-init c = counted_none c.rows_of-rows.ensures.0 (omega arith)

pub overflow_add-sends : goal.overflow_add-sends
overflow_add-sends c =
    omega (arith, (counted-more c.loop-j.invariant c.rows_of-rows.ensures.0 (omega arith) c.repeat_of.ensures.is).few)

pub loop-j-preserved : goal.loop-j-preserved
loop-j-preserved c = counted-more c.loop-j.invariant c.rows_of-rows.ensures.0 (omega arith) c.repeat_of.ensures.is

pub returns : goal.returns
returns c = counted-all c.loop-j.invariant (omega arith) (omega arith)
