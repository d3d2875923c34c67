-- Where the head has no fault there is a header, and the file has the bytes that it says.
use Rattle.std.proofs.Common.{sym, arith}
use Rattle.problem.proofs.Wrong.{head-right}
use Rattle.reader.proofs.Decoding.{head-sized, laid}
use Rattle.reader.proofs.words_in.Goals as goal

pub columns_in-k-requires : goal.columns_in-k-requires
columns_in-k-requires c = (head-right _ (sym c.in_ok-head_fault.ensures)).long

pub messages_in-m-requires : goal.messages_in-m-requires
messages_in-m-requires c = (head-right _ (sym c.in_ok-head_fault.ensures)).long

pub layout_in-requires : goal.layout_in-requires
layout_in-requires c = (head-right _ (sym c.in_ok-head_fault.ensures)).long

pub read_words-requires : goal.read_words-requires
read_words-requires c =
    (head-sized _ _ _ (head-right _ (sym c.in_ok-head_fault.ensures)) c.layout_in.ensures c.columns_in-k.ensures.0 c.messages_in-m.ensures.0, c.requires)

pub message_at-requires : goal.message_at-requires
message_at-requires c =
    let s = head-sized _ _ _ (head-right _ (sym c.in_ok-head_fault.ensures)) c.layout_in.ensures c.columns_in-k.ensures.0 c.messages_in-m.ensures.0 in
    (s.columns-most, s.messages-most)

pub returns : goal.returns
returns c =
    let clear = sym c.in_ok-head_fault.ensures in
    let s = head-sized _ _ _ (head-right _ clear) c.layout_in.ensures c.columns_in-k.ensures.0 c.messages_in-m.ensures.0 in
    laid _ _ _ _ _ _ clear c.layout_in.ensures s (omega (arith, c.requires, c.read_words.auto.words)) c.read_words.ensures c.message_at.ensures
