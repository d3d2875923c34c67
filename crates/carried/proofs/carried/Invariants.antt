-- The list has what the plan has for each message passed.
use Rattle.std.proofs.Common.{◌≡◌, ◌*◌, length}
use Rattle.rules.specs.Problem.{most_messages}
use Rattle.carried.specs.Carried.{Carried}
use Rattle.carried.proofs.carried.Given as goal

abbrev pub invariant-loop-j : goal.invariant-loop-j
invariant-loop-j l = record { long : length l.k ≡ 2 * most_messages; passed : Carried l.p l.old l.w l.k l.j }
