-- The tests of the rule, each on the column's own words.
use Rattle.std.proofs.Common.{add-one}
use Rattle.rules.specs.Rules.{column_wrong}
use Rattle.wellformed.proofs.column_wrong.Goals as goal

pub returns : goal.returns
unfolding column_wrong
returns c =
    rw (
      c.end_of.ensures,
      c.from-2.ensures,
      c.from.ensures,
      c.kind_in.ensures,
      c.start_in-start.ensures,
      c.width_in-width.ensures,
      c.requires.from_is,
      add-one c.args.c,
    )
