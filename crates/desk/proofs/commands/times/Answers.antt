-- A call that is done had events that keep the rules and have busy periods.
use Rattle.response.proofs.Results.{responding-ready}
use Rattle.desk.proofs.commands.times.Goals as goal

pub events-requires : goal.events-requires
events-requires g c = responding-ready (rw c.in-Ok.is at c.responses.ensures)
