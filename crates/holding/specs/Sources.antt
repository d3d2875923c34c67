-- What a plan has under an identifier.
use Rattle.std.specs.Prelude.{◌<◌}
use Rattle.rules.specs.Problem.{most_messages}
use Rattle.holding.specs.declared.Source.{Source}
use Rattle.holding.specs.declared.Source.TheVariants.{Reference, Message}

-- no plan has more messages than a problem has at most
abbrev pub OfPlan : Source → Type 0
OfPlan Reference = Unit {0}
OfPlan (Message j) = j < most_messages
