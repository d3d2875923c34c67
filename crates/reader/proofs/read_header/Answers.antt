-- Seven stores fill the seven words.
use Rattle.std.proofs.Common.{[], ◌∷◌, ◌∙◌}
use Rattle.basics.proofs.Runs.{sets-all}
use Rattle.reader.proofs.read_header.Goals as goal

pub returns : goal.returns
returns c = sets-all (_ ∷ _ ∷ _ ∷ _ ∷ _ ∷ _ ∷ _ ∷ []) c.args.words.now c.requires.1 ∙ cc
