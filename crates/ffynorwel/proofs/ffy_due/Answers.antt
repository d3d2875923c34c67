-- The answer that was given is the one that is stored; its count fits a word.
use Rattle.std.proofs.Common.{refl}
use Rattle.ffynorwel.proofs.Counts.{due-fits}
use Rattle.ffynorwel.proofs.Handed.{handed}
use Rattle.ffynorwel.proofs.ffy_due.Goals as goal

pub store_count-requires : goal.store_count-requires
store_count-requires c = due-fits _ c.due.ensures

pub returns : goal.returns
returns c = handed c.due.ensures refl c.store_count.ensures
