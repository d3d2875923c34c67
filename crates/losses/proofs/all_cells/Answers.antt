-- It stays small, since a row adds at most 32 widths.
use Rattle.std.proofs.Common.{refl, arith}
use Rattle.losses.proofs.Tallies.{tallied-none, tallied-more, tallied-small}
use Rattle.losses.proofs.all_cells.Goals as goal

pub loop-i-init : goal.loop-i-init
loop-i-init c = tallied-none refl refl refl

pub add_row-requires-clause-small : goal.add_row-requires-clause-small
add_row-requires-clause-small c = tallied-small c.requires.0 c.requires.1 (omega arith) c.loop-i.invariant

pub loop-i-preserved : goal.loop-i-preserved
loop-i-preserved c = tallied-more c.loop-i.invariant c.add_row.ensures
