use Rattle.lookahead.proofs.Narrowing.{narrowed-then}
use Rattle.std.proofs.Common.{arith, refl}
use Rattle.lookahead.proofs.Trying.{shut_none, narrowed-tried, cautious-no}
use Rattle.lookahead.proofs.+possible.Goals as goal
use Rattle.lookahead.proofs.+possible.Goals.{then-tries-eq0, else-tries-eq0}

-- a message without a place
pub returns-in_default-first_row : goal.returns-in_default-first_row
returns-in_default-first_row t c =
    let inv = c.loop-tries.invariant in
    let member = rw c.in-Some.is at inv.0 in
    record { cautious = cautious-no inv.1 (shut_none member.0 member.1 c.step.ensures.often.is (rw c.in_default-first_row.is at c.first_row.ensures)) }

-- a place that left the others no room
pub loop-tries-preserved : goal.loop-tries-preserved
loop-tries-preserved t c =
    let inv = c.loop-tries.invariant in
    let member = rw c.in-Some.is at inv.0 in
    let shut = c.possible.ensures.cautious.refuses c.if-possible.false in
    let below = c.in-Some-first_row.ensures.0 in
    let tried = narrowed-tried c.step.ensures.few member.0 c.clear_bit-rest.ensures refl c.beside.ensures.beside shut (omega arith) c.table_at-k.ensures.0 (omega arith) c.clear_bit.ensures in
    let rest = narrowed-then inv.1 tried in
    elim c.if-tries-eq0.branch [
      | then-tries-eq0 w ↦ rw (w.table-is, w.picked-is) (w.turn-picked.ensures.picked.0, narrowed-then rest w.turn-picked.ensures.picked.1)
      | else-tries-eq0 w ↦ rw (w.table-is, w.picked-is) (member, rest)
    ]
