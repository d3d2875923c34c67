-- A turn that climbs, one at which w has come again, and what was found at the end.
use Rattle.std.proofs.Common.{◌+◌, ap₂, arith}
use Rattle.response.proofs.Waiting.{waiting-start, found-start, waiting-next, release-before, instance-here, waiting-later, found-more, found_all}
use Rattle.response.proofs.times.worst_within.Goals as goal

pub loop-q-init : goal.loop-q-init
loop-q-init c = record {
  timing = record {
    member = c.requires.0;
    span = c.requires.1;
    frame_is = c.frame_of-frame.ensures.is;
    period-is = c.period_of-period.ensures.is;
    own_is = ap₂ ◌+◌ c.jitter_of.ensures.is c.frame_of-frame.ensures.is;
    count-is = c.arrivals_of-instances.ensures.is;
  };
  waiting = waiting-start c.requires.1 c.blocking_of-ahead.ensures.is;
  found = found-start _ _ _ _;
  inside = omega arith;
}

-- a turn that climbs
pub loop-q-preserved-then-next-w : goal.loop-q-preserved-then-next-w
loop-q-preserved-then-next-w c = record {
  timing = c.loop-q.invariant.timing;
  waiting = waiting-next c.loop-q.invariant.timing c.loop-q.invariant.waiting c.loop-q-test.true c.demand_of.ensures.is;
  found = c.loop-q.invariant.found;
  inside = c.loop-q.invariant.inside;
}

-- and one at which w has come again
pub overflow_sub-own : goal.overflow_sub-own
overflow_sub-own c = release-before c.loop-q.invariant.timing c.loop-q.invariant.waiting c.loop-q-test.true c.demand_of.ensures.is c.if-next-w.false

pub loop-q-preserved : goal.loop-q-preserved
loop-q-preserved c =
    let fixed = c.loop-q.invariant.timing in
    let known = c.loop-q.invariant.waiting in
    let inside = c.loop-q-test.true in
    let more = c.demand_of.ensures.is in
    let again = c.if-next-w.false in
    record {
      timing = fixed;
      waiting = waiting-later fixed known inside more again;
      found = found-more fixed (instance-here fixed known inside more again) c.loop-q.invariant.found c.worse-worst.ensures c.if-limit-worst.false;
      inside = omega (arith, inside);
    }

pub returns : goal.returns
returns c = found_all c.loop-q.invariant.timing c.loop-q.invariant.found (omega arith)
