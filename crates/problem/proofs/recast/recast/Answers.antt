-- The header and the messages are copied, and the columns between them recast, each in front of what its part of the buffer held.
use Rattle.std.proofs.Common.{arith}
use Rattle.problem.proofs.Callers.{recast-parts}
use Rattle.problem.proofs.recast.recast.Goals as goal

pub returns : goal.returns
returns c =
    recast-parts c.args.a c.args.b c.args.words.now c.args.out.now _ _ _ c.args.k c.args.m _ _ c.requires.0.columns-are c.requires.0.words c.requires.3
    (omega (arith, c.said_for-from.ensures)) (omega (arith, c.said_for-to.ensures))
    c.copy_words.ensures c.recast_columns.ensures c.copy_words-2.ensures
