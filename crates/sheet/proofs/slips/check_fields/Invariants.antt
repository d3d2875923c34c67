-- Each turn goes on behind a word of the line, which has a byte at least.
use Rattle.std.proofs.Common.{◌-◌, ◌≤◌}
use Rattle.sheet.proofs.slips.check_fields.Given as goal

abbrev pub invariant-loop-word : goal.invariant-loop-word
invariant-loop-word l = (l.line.from ≤ l.at) × (l.at ≤ l.line.to)

abbrev pub decreases-loop-word : goal.decreases-loop-word
decreases-loop-word l = l.line.to - l.at
