-- The file is decoded once; its refusal is handed on, and else its words are planned.
use Rattle.std.proofs.Common.{Err, refl}
use Rattle.planner.proofs.Promise.{not-read, is_read}
use Rattle.planner.proofs.plan.Goals as goal

pub returns-in_default : goal.returns-in_default
returns-in_default c = rw c.in_default.is (not-read _ _ (Err _) c.in_default.ensures refl)

pub returns : goal.returns
returns c = is_read c.in-Ok.ensures c.plan_words.ensures
