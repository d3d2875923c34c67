-- The three parts are written one behind the other, each in front of what its part of the buffer held.
use Rattle.std.proofs.Common.{arith}
use Rattle.problem.proofs.File.{bytes-parts}
use Rattle.writer.proofs.write_file.Goals as goal

pub returns : goal.returns
returns c =
    bytes-parts c.args.layout c.args.words.now c.args.out.now _ _ _ _ _ _ _ c.requires.0.columns-are c.requires.0.messages-are
    c.column_at-from.ensures (omega (arith, c.bytes_for-to.ensures))
    c.write_header.ensures c.write_columns.ensures c.write_messages.ensures
