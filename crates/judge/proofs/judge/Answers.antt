-- The figures are those of the words that were read and tested.
use Rattle.judge.proofs.Promise.{judging-accepted}
use Rattle.judge.proofs.judge.Goals as goal

pub returns : goal.returns
returns c = judging-accepted c.in_ok-n.ensures c.figures-lost.ensures
