-- The filled table of cells has numbers of messages only.
use Rattle.std.proofs.Common.{List, ℕ}
use Rattle.rules.specs.Problem.{messages}
use Rattle.proposal.specs.Accepted.{Accepted}
use Rattle.cells.specs.Table.{Table}
use Rattle.cells.proofs.Owners.{number-most, holder}
use Rattle.bus_log.specs.Rows.{Numbered}

pub table-numbered : {p w t : List ℕ} → Accepted p w → Table p w (messages p) t → Numbered p t
table-numbered a b = record { formed = a.formed; long = b.long; each = λ i c li lc. number-most (holder a b i c li lc) }
