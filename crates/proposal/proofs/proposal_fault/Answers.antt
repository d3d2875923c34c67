-- The number of words comes first; no message has a cell at the start.
use Rattle.std.proofs.Common.{◌∙◌}
use Rattle.row_words.proofs.Taking.{words-none}
use Rattle.proposal.proofs.Walk.{other-proposal, right-proposal}
use Rattle.proposal.proofs.proposal_fault.Goals as goal

pub returns-then-w-proposal_words : goal.returns-then-w-proposal_words
returns-then-w-proposal_words c = other-proposal c.args.p.now c.args.w.now c.proposal_words.ensures.0 c.if-w-proposal_words.true

pub first_fault-requires : goal.first_fault-requires
first_fault-requires c =
    (c.requires, c.messages_of.ensures.0, c.if-w-proposal_words.false ∙ c.proposal_words.ensures.0, words-none c.args.p.now c.args.w.now c.requires)

pub returns : goal.returns
returns c =
    right-proposal c.args.p.now c.args.w.now c.proposal_words.ensures.0 c.if-w-proposal_words.false c.messages_of.ensures.0 c.first_fault.ensures
