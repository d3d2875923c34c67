-- Where the file is a problem it has a header, and its words, three for each column, stand in front of the buffer.
use Rattle.std.proofs.Common.{ap, ◌∙◌}
use Rattle.problem.specs.Callers.{column_words}
use Rattle.problem.proofs.Wrong.{file-parts, head-right}
use Rattle.reader.proofs.Decoding.{opened-said, reading-refused, reading-short, reading-done}
use Rattle.reader.proofs.read.Goals as goal

pub returns-in_default : goal.returns-in_default
returns-in_default c = rw c.in_default.is (reading-refused _ _ c.decode-got.new.words c.in_default.ensures)

pub layout_in-requires : goal.layout_in-requires
layout_in-requires c = (head-right _ (file-parts _ c.in-Ok.ensures.clear).0).long

pub columns_in-k-requires : goal.columns_in-k-requires
columns_in-k-requires c = (head-right _ (file-parts _ c.in-Ok.ensures.clear).0).long

pub messages_in-m-requires : goal.messages_in-m-requires
messages_in-m-requires c = (head-right _ (file-parts _ c.in-Ok.ensures.clear).0).long

pub said_for-count-requires : goal.said_for-count-requires
said_for-count-requires c =
    let said = opened-said c.in-Ok.ensures c.columns_in-k.ensures.0 c.messages_in-m.ensures.0 in
    (c.column_words-said.ensures.2, said.columns-most, said.messages-most)

pub returns-then-words-count : goal.returns-then-words-count
returns-then-words-count c =
    let said = c.column_words-said.ensures.0 ∙ ap column_words c.layout_in.ensures in
    reading-short _ _ _ c.in-Ok.ensures said c.columns_in-k.ensures.0 c.messages_in-m.ensures.0 c.said_for-count.ensures c.if-words-count.true

pub recast-requires : goal.recast-requires
recast-requires c = (
  opened-said c.in-Ok.ensures c.columns_in-k.ensures.0 c.messages_in-m.ensures.0,
  c.column_words-said.ensures.1,
  c.column_words-said.ensures.2,
  rw (← c.said_for-count.ensures) c.if-words-count.false,
)

pub returns : goal.returns
returns c =
    let said = c.column_words-said.ensures.0 ∙ ap column_words c.layout_in.ensures in
    reading-done _ _ _ c.in-Ok.ensures said c.columns_in-k.ensures.0 c.messages_in-m.ensures.0 c.said_for-count.ensures c.if-words-count.false c.recast.ensures
