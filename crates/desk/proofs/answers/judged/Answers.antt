-- The figures of what is accepted are not all 0: the reference takes some of the bus time.
use Rattle.std.proofs.lemmas.Result.{IfOk-weaker}
use Rattle.judge.proofs.Promise.{accepted-some}
use Rattle.desk.proofs.answers.judged.Goals as goal

pub returns : goal.returns
returns g c = IfOk-weaker c.answered.result _ _ (λ t h. accepted-some (rw h at c.judge-got.ensures)) c.answered.ensures
