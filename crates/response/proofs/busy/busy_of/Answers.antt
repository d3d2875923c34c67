-- A t that stays is the busy period, and a t that is its own load of an earlier one climbs by a frame at least.
use Rattle.std.proofs.Common.{arith}
use Rattle.response.proofs.Spans.{spanning-next, spanning-falls, spanning-none}
use Rattle.response.proofs.busy.busy_of.Goals as goal

pub loop-t-smaller : goal.loop-t-smaller
loop-t-smaller c = spanning-falls c.loop-t.invariant.spanning c.arrivals_of.ensures.is c.demand_of.ensures.is (omega arith) c.if-next-t.false

pub loop-t-preserved : goal.loop-t-preserved
loop-t-preserved c = record {
  spanning = spanning-next c.loop-t.invariant.spanning c.arrivals_of.ensures.is c.demand_of.ensures.is;
  blocked-most = c.loop-t.invariant.blocked-most;
  frame-most = c.loop-t.invariant.frame-most;
}

pub returns : goal.returns
returns c = spanning-none c.loop-t.invariant.spanning (omega arith)
