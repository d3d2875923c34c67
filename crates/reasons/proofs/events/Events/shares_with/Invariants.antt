-- So far each of the events has added no more than one can.
use Rattle.std.proofs.Common.{◌*◌, ◌≤◌}
use Rattle.reasons.specs.Shares.{most_shares}
use Rattle.reasons.proofs.events.Events.shares_with.Given as goal

abbrev pub invariant-loop-i : goal.invariant-loop-i
invariant-loop-i l = l.total ≤ most_shares * l.i
