use Rattle.std.proofs.Common.{arith, below_more}
use Rattle.wellformed.proofs.Words.{has-earlier, repeated-found, not-repeated, repeated-none}
use Rattle.wellformed.proofs.is_repeated.Goals as goal

pub field_in-requires : goal.field_in-requires
field_in-requires c = (has-earlier c.requires (omega arith), omega arith)

pub returns-then-field_in-id : goal.returns-then-field_in-id
returns-then-field_in-id c = repeated-found _ _ _ (omega arith) c.field_in.ensures c.field_in-id.ensures c.if-field_in-id.true

pub loop-i-preserved : goal.loop-i-preserved
loop-i-preserved c = below_more _ _ c.loop-i.invariant (not-repeated c.args.words.now c.args.j c.loop-i.i c.field_in.ensures c.field_in-id.ensures c.if-field_in-id.false)

pub returns : goal.returns
returns c = repeated-none _ _ (λ i l. c.loop-i.invariant i (omega arith))
