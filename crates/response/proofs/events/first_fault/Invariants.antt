-- No event before j breaks a rule: so the first fault is that of the event at which the loop is left, and there is none at its end.
use Rattle.std.proofs.Common.{ℕ, ◌<◌, ◌≡◌}
use Rattle.std.specs.Prelude.{Ok}
use Rattle.response.specs.Events.{event_fault}
use Rattle.response.proofs.events.first_fault.Given as goal

abbrev pub invariant-loop-j : goal.invariant-loop-j
invariant-loop-j l = (k : ℕ) → k < l.j → event_fault l.events k ≡ Ok tt
