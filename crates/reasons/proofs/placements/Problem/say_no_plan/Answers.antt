-- No cell is taken at the start, so that the words are those of no message.
use Rattle.row_words.proofs.Taking.{words-none}
use Rattle.reasons.proofs.placements.Problem.say_no_plan.Goals as goal

pub kept_fault-requires : goal.kept_fault-requires
kept_fault-requires c = (c.self.invariant, words-none _ _ c.self.invariant)
