-- The words that stand in front of the buffer are tested there.
use Rattle.std.proofs.Common.{refl}
use Rattle.rules.proofs.Faults.{handed}
use Rattle.problem.proofs.Wrong.{file-head, head-right}
use Rattle.reader.proofs.Decoding.{fault-is, opened}
use Rattle.reader.proofs.decode.Goals as goal

pub returns-in_err-n : goal.returns-in_err-n
returns-in_err-n c = rw (handed c.from_residual.ensures.1) (file-head _ _ c.in_err-n.ensures)

pub columns_in-requires : goal.columns_in-requires
columns_in-requires c = (head-right _ c.in_ok-n.ensures.clear).long

pub messages_in-requires : goal.messages_in-requires
messages_in-requires c = (head-right _ c.in_ok-n.ensures.clear).long

pub words_fault-requires : goal.words_fault-requires
words_fault-requires c = rw (c.columns_in.ensures.0, c.messages_in.ensures.0) c.in_ok-n.ensures.counted

pub returns-in_err-words_fault : goal.returns-in_err-words_fault
returns-in_err-words_fault c = rw (handed c.from_residual-in_err-words_fault.ensures.1) (fault-is c.in_ok-n.ensures c.in_err-words_fault.ensures)

pub returns : goal.returns
returns c = opened c.in_ok-n.ensures c.in_ok-words_fault.ensures refl
