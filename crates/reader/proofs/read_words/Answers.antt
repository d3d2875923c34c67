-- The parts that were written stand one behind the other.
use Rattle.std.proofs.Common.{arith}
use Rattle.problem.proofs.File.{words-parts}
use Rattle.reader.proofs.read_words.Goals as goal

pub returns : goal.returns
returns c =
    words-parts c.args.layout c.args.file.now c.args.words.now _ _ _ _ _ _ _ c.requires.0.columns-are c.requires.0.messages-are
    (omega (arith, c.bytes_for-from.ensures)) c.column_at-to.ensures
    c.read_header.ensures c.read_columns.ensures c.read_messages.ensures
