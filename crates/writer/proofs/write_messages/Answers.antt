-- All records are inside the buffer, and each step puts one more piece behind those that are written.
use Rattle.std.proofs.Common.{◌*◌, ◌≤◌, ◌∙◌, arith, length, sym}
use Rattle.basics.proofs.Runs.{turned_none, turned_more, turned-parts, turned-all}
use Rattle.problem.proofs.Layouts.{step, message-length}
use Rattle.writer.proofs.write_messages.Goals as goal

pub loop-j-init : goal.loop-j-init
loop-j-init c = turned_none

pub overflow_mul-to : goal.overflow_mul-to
overflow_mul-to c =
    let inside : c.message_size-size.result * c.args.m ≤ length c.args.out.now = rw c.message_size-size.ensures.0 c.requires.1 in
    omega (arith, (step c.message_size-size.result c.loop-j.j c.args.m (length c.args.out.now) (omega (arith, c.message_size-size.ensures.1)) (omega arith) (omega arith) inside).0)

pub slice_bounds-write_message-end-in-loop-j : goal.slice_bounds-write_message-end-in-loop-j
slice_bounds-write_message-end-in-loop-j c =
    let inside : c.message_size-size.result * c.args.m ≤ length c.args.out.now = rw c.message_size-size.ensures.0 c.requires.1 in
    omega (arith, (step c.message_size-size.result c.loop-j.j c.args.m (length c.args.out.now) (omega (arith, c.message_size-size.ensures.1)) (omega arith) (omega arith) inside).1)

pub write_message-requires : goal.write_message-requires
write_message-requires c =
    let inside : c.message_size-size.result * c.args.m ≤ length c.args.out.now = rw c.message_size-size.ensures.0 c.requires.1 in
    let parts = turned-parts c.loop-j.j c.args.m c.loop-j.invariant (omega arith) (omega arith) inside in
    (parts.0, parts.1 ∙ c.message_size-size.ensures.0)

pub loop-j-preserved : goal.loop-j-preserved
loop-j-preserved c =
    turned_more (λ r. message-length c.args.layout r ∙ sym c.message_size-size.ensures.0) c.loop-j.j c.loop-j.invariant c.write_message.ensures c.write_message.auto.out

pub returns : goal.returns
returns c = rw (← c.message_size-size.ensures.0) (turned-all c.loop-j.invariant (omega arith))
