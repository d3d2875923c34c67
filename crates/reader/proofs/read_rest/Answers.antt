-- Six stores fill the six words behind the first.
use Rattle.std.proofs.Common.{[], ◌∷◌, ◌∙◌}
use Rattle.basics.proofs.Runs.{sets_behind}
use Rattle.reader.proofs.read_rest.Goals as goal

pub returns : goal.returns
returns c = sets_behind (_ ∷ _ ∷ _ ∷ _ ∷ _ ∷ _ ∷ []) c.args.words.now c.requires.1 ∙ cc
