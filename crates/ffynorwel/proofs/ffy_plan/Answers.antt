-- The answer that was given is the one that is stored; its count fits a word.
use Rattle.std.proofs.Common.{refl}
use Rattle.ffynorwel.proofs.Counts.{plan-fits}
use Rattle.ffynorwel.proofs.Handed.{handed}
use Rattle.ffynorwel.proofs.ffy_plan.Goals as goal

pub store_count-requires : goal.store_count-requires
store_count-requires c = plan-fits _ c.plan.ensures

pub returns : goal.returns
returns c = handed c.plan.ensures refl c.store_count.ensures
