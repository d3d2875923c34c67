use Rattle.std.proofs.Common.{Bool, true, false, ◌≡◌, ◌≤◌, arith, refl, ap, ◌∙◌}
use mir.Val.{bool_byte}
use lib.Dec.{eqb}
use Rattle.basics.specs.Sums.{sum, only}
use Rattle.wellformed.proofs.Words.{needed-next, triggers-counted}
use Rattle.wellformed.proofs.triggers_of.Goals as goal

-- a test as a number
byte-only : (b : Bool) → bool_byte b ≡ only b 1
byte-only true = refl
byte-only false = refl

byte-most : (b : Bool) → bool_byte b ≤ 1
byte-most true = omega arith
byte-most false = omega arith

pub loop-j-init : goal.loop-j-init
unfolding sum
loop-j-init c = record { counted = refl; few = omega arith }

pub loop-j-preserved : goal.loop-j-preserved
loop-j-preserved c = record {
  counted =
      needed-next c.args.words.now c.args.node c.loop-j.j c.field_in.ensures c.field_in-in-loop-j.ensures
      (c.from.ensures ∙ byte-only _) (c.from-in-loop-j.ensures ∙ byte-only _ ∙ ap (λ (t : Bool). only t 1) c.is_receiver-is_received.ensures) c.loop-j.invariant.counted;
  few = let a = byte-most (eqb c.field_in.result c.args.node) in let b = byte-most c.is_receiver-is_received.result in omega arith;
}

pub returns : goal.returns
returns c = triggers-counted _ _ _ _ (omega arith) c.loop-j.invariant.counted
