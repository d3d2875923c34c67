-- No byte writes 0, and each turn adds the digit that the library reads.
use Rattle.std.proofs.Common.{◌≡◌, get_or, arith}
use Rattle.std.specs.Char.{digit_value}
use Rattle.wordlist.proofs.Numbers.{writes-none, writes_more}
use Rattle.wordlist.proofs.number_in.Goals as goal

pub loop-b-init : goal.loop-b-init
loop-b-init c = writes-none _ _

pub loop-b-preserved : goal.loop-b-preserved
loop-b-preserved c =
    let d = c.in_ok-digit.digit in
    let (below, is) = c.in_ok-digit.ensures.value in
    let read : digit_value (get_or c.args.digits.now c.loop-b.b-index 0) ≡ d = rw (← c.from.ensures) (cc (is)) in
    writes_more (omega arith) c.loop-b.invariant read (rw is below) (omega arith)
