-- Send and release lie below the period, so the difference lies below twice the period: it is its own rest, or one period above it.
use Rattle.rules.proofs.Computed.{wait-short, wait-long}
use Rattle.rules.proofs.placing.wait_of.Goals as goal

pub returns-then-ahead-period : goal.returns-then-ahead-period
returns-then-ahead-period c =
    wait-short c.requires.0 c.requires.1 c.period_of-period.ensures c.first_send.ensures c.offset_of.ensures.0 c.if-ahead-period.true

pub returns : goal.returns
returns c =
    wait-long c.requires.0 c.requires.1 c.period_of-period.ensures c.first_send.ensures c.offset_of.ensures.0 c.if-ahead-period.false
