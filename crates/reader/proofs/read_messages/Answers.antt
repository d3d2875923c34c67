-- All records are inside the part, and each step puts one more piece behind those that are read.
use Rattle.std.proofs.Common.{refl, arith, ◌*◌, ◌≤◌, ◌∙◌, length}
use Rattle.basics.proofs.Runs.{turned_none, turned_more, turned-parts, turned-all}
use Rattle.problem.proofs.Layouts.{step}
use Rattle.reader.proofs.read_messages.Goals as goal

pub loop-j-init : goal.loop-j-init
loop-j-init c = turned_none

pub overflow_mul-from : goal.overflow_mul-from
overflow_mul-from c =
    let inside : c.message_size-size.result * c.args.m ≤ length c.args.part.now = rw c.message_size-size.ensures.0 c.requires.0 in
    omega (arith, (step c.message_size-size.result c.loop-j.j c.args.m (length c.args.part.now) (omega (arith, c.message_size-size.ensures.1)) (omega arith) (omega arith) inside).0)

pub slice_bounds-read_message-end : goal.slice_bounds-read_message-end
slice_bounds-read_message-end c =
    let inside : c.message_size-size.result * c.args.m ≤ length c.args.part.now = rw c.message_size-size.ensures.0 c.requires.0 in
    (step c.message_size-size.result c.loop-j.j c.args.m (length c.args.part.now) (omega (arith, c.message_size-size.ensures.1)) (omega arith) (omega arith) inside).1

pub read_message-requires : goal.read_message-requires
read_message-requires c =
    let inside : c.message_size-size.result * c.args.m ≤ length c.args.part.now = rw c.message_size-size.ensures.0 c.requires.0 in
    let parts = turned-parts c.loop-j.j c.args.m c.loop-j.invariant (omega arith) inside (omega arith) in
    (parts.0 ∙ c.message_size-size.ensures.0, parts.1)

pub loop-j-preserved : goal.loop-j-preserved
loop-j-preserved c = turned_more (λ r. refl) c.loop-j.j c.loop-j.invariant c.read_message.ensures c.read_message.auto.words

pub returns : goal.returns
returns c = rw (← c.message_size-size.ensures.0) (turned-all c.loop-j.invariant (omega arith))
