-- The digits of the complement are those that the word has not.
use Rattle.std.proofs.Common.{arith}
use Rattle.row_words.proofs.Freeing.{without_is}
use Rattle.row_words.proofs.without.Goals as goal

pub returns : goal.returns
returns c = without_is _ _ (omega arith)
