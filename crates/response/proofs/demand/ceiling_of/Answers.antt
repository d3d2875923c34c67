-- The quotient of words, rounded up, is the ceiling: neither the number nor the period loses a digit as a word.
use Rattle.std.proofs.Common.{◌∙◌}
use Rattle.response.proofs.Figures.{ceiling-figure}
use Rattle.response.proofs.Queue.{rounded-up}
use Rattle.response.proofs.demand.ceiling_of.Goals as goal

pub returns : goal.returns
returns c = ceiling-figure (c.div_ceil.ensures ∙ rounded-up c.args.a c.args.b c.requires.1) c.requires.0 c.requires.1
