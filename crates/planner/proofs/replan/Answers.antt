-- The file is decoded once; its refusal is handed on, and else its words are planned again.
use Rattle.std.proofs.Common.{Err, refl}
use Rattle.planner.proofs.Promise.{not-read-again, is-read-again}
use Rattle.planner.proofs.replan.Goals as goal

pub returns-in_default : goal.returns-in_default
returns-in_default c = rw c.in_default.is (not-read-again _ _ _ (Err _) c.in_default.ensures refl)

pub returns : goal.returns
returns c = is-read-again c.in-Ok.ensures c.replan_words.ensures
