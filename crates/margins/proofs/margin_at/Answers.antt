-- Where no fault was found, the message is in range and in time, so that nothing falls below 0.
use Rattle.std.proofs.Common.{arith}
use Rattle.margins.proofs.Leaving.{alone, at_place}
use Rattle.margins.proofs.margin_at.Goals as goal

pub wait_of-wait-requires : goal.wait_of-wait-requires
wait_of-wait-requires c = (c.requires, (alone c.own_fault.ensures c.is_err.ensures.value c.if-is_err.false).placed)

pub overflow_sub-result : goal.overflow_sub-result
overflow_sub-result c = let a = alone c.own_fault.ensures c.is_err.ensures.value c.if-is_err.false in omega arith

pub overflow_sub-result-2 : goal.overflow_sub-result-2
overflow_sub-result-2 c = let a = alone c.own_fault.ensures c.is_err.ensures.value c.if-is_err.false in omega arith

pub returns : goal.returns
returns c =
    at_place c.own_fault.ensures c.is_err.ensures.value c.if-is_err.false
    c.wait_of-wait.ensures.is c.frame_of-frame.ensures.is c.deadline_of.ensures.0
