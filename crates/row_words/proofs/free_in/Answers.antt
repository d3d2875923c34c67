-- One row more, and after the last of them no row is left.
use Rattle.std.proofs.Common.{arith, refl, ◌+◌}
use Rattle.row_words.proofs.Freeing.{freeing-more, freeing-all}
use Rattle.row_words.proofs.free_in.Goals as goal

pub loop-row-preserved : goal.loop-row-preserved
loop-row-preserved c = freeing-more c.loop-row.invariant (omega arith) (omega arith) c.without-free.ensures refl

pub returns-2 : goal.returns-2
returns-2 c = freeing-all (freeing-more c.loop-row.invariant (omega arith) {next = c.loop-row.row + c.args.step} (omega arith) c.without-free.ensures refl) (omega arith) (omega arith)
