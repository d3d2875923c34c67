-- The words of the messages passed are how often these are sent.
use Rattle.std.proofs.Common.{ℕ, ◌<◌, ◌≡◌, length, get_or}
use Rattle.rules.specs.Parts.{Repeat}
use Rattle.places.specs.Places.{most_planned}
use Rattle.places.proofs.plannable.Plannable.of.Given as goal

abbrev pub invariant-loop-j : goal.invariant-loop-j
invariant-loop-j l = (length l.steps ≡ most_planned) × ((k : ℕ) → k < l.j → Repeat l.words k (get_or l.steps k 0))
