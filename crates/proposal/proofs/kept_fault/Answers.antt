-- The number of words comes first; no message has a cell at the start.
use Rattle.std.proofs.Common.{◌∙◌}
use Rattle.proposal.proofs.Walk.{other-kept, right_kept}
use Rattle.proposal.proofs.kept_fault.Goals as goal

pub returns-then-k-proposal_words : goal.returns-then-k-proposal_words
returns-then-k-proposal_words c = other-kept c.args.p.now c.args.k.now c.proposal_words.ensures.0 c.if-k-proposal_words.true

pub first_fault-requires : goal.first_fault-requires
first_fault-requires c = (c.requires.0, c.messages_of.ensures.0, c.if-k-proposal_words.false ∙ c.proposal_words.ensures.0, c.requires.1)

pub returns : goal.returns
returns c =
    right_kept c.args.p.now c.args.k.now c.proposal_words.ensures.0 c.if-k-proposal_words.false c.messages_of.ensures.0 c.first_fault.ensures
