-- The room is tested, and the file written in front of what the buffer held.
use Rattle.std.proofs.Common.{ap₂, ◌∙◌}
use Rattle.problem.specs.File.{bytes_for}
use Rattle.writer.proofs.Writing.{laying-short, laying-done}
use Rattle.writer.proofs.lay.Goals as goal

pub returns-then-file-n : goal.returns-then-file-n
returns-then-file-n c =
    laying-short _ _ _ (c.bytes_for-n.ensures ∙ ap₂ (bytes_for c.args.layout) c.columns_of-k.ensures.0 c.messages_of-m.ensures.0) c.if-file-n.true

pub returns : goal.returns
returns c =
    laying-done _ _ _ (c.bytes_for-n.ensures ∙ ap₂ (bytes_for c.args.layout) c.columns_of-k.ensures.0 c.messages_of-m.ensures.0) c.if-file-n.false
    (c.write_file.ensures ∙ rw c.bytes_for-n.ensures)
