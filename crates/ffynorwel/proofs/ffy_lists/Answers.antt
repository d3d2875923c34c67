-- The answer that was given is the one that is stored; its count fits a word.
use Rattle.std.proofs.Common.{refl}
use Rattle.ffynorwel.proofs.Counts.{lists-fits}
use Rattle.ffynorwel.proofs.Handed.{handed}
use Rattle.ffynorwel.proofs.ffy_lists.Goals as goal

pub store_count-requires : goal.store_count-requires
store_count-requires c = lists-fits _ c.lists.ensures

pub returns : goal.returns
returns c = handed c.lists.ensures refl c.store_count.ensures
