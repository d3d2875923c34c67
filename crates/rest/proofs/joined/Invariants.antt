-- The kept messages stand where they are kept, and those of the slots before s where the plan has these.
use Rattle.std.proofs.Common.{◌≡◌, ◌*◌, length}
use Rattle.rules.specs.Problem.{most_messages}
use Rattle.rest.specs.Joined.{Joined}
use Rattle.rest.proofs.joined.Given as goal

abbrev pub invariant-loop-s : goal.invariant-loop-s
invariant-loop-s l = record { long : length l.w ≡ 2 * most_messages; joined : Joined l.kept l.group l.s l.plan l.messages l.w }
