-- The first place behind which the call finds something is that of the least; where it finds nothing, and where the table has no place, nothing has the message there.
use Rattle.std.proofs.Common.{◌<◌, arith}
use Rattle.rules.specs.Problem.{messages}
use Rattle.rules.proofs.Meaning.{stands}
use Rattle.places.proofs.Meets.{low_column}
use Rattle.planner.proofs.Room.{tried, begun-next, found-there, gone-closed, gone-tried}
use Rattle.planner.proofs.Columns.{passed-start, turn-start, turn-end, passed-all}
use Rattle.planner.proofs.+search.Goals.{then-has_bit+in_default as nothing, else-has_bit as closed}
use Rattle.planner.proofs.+search.Goals as goal

pub loop-c-init : goal.loop-c-init
loop-c-init t c =
    rw (c.into_iter-c-iterator.ensures.into_iter_gives, c.digits_of-c-items.ensures)
    (passed-start (omega (arith, c.messages-count.ensures.is)) c.step-step.ensures.often.is c.columns_in.ensures)

pub loop-r-init : goal.loop-r-init
loop-r-init t c =
    let below : c.args.at < messages c.args.p.now = omega (arith, c.messages-count.ensures.is) in
    turn-start (λ w W. low_column c.messages-count.ensures.few (stands W.stands _ below)) c.in-Some.ensures.steps c.loop-c.invariant

pub loop-c-preserved : goal.loop-c-preserved
loop-c-preserved t c =
    let below : c.args.at < messages c.args.p.now = omega (arith, c.messages-count.ensures.is) in
    turn-end (λ w W. (stands W.stands _ below).row_below) (omega (arith, c.step-step.ensures.often.is)) c.loop-r.invariant

pub search-requires : goal.search-requires
search-requires t c = (
  omega (arith, c.decreases, c.messages-count.ensures.is),
  begun-next c.table_at.ensures.0 c.has_bit.ensures c.if-has_bit.true
      (tried c.messages-count.ensures.few c.messages-count.ensures.is c.if-count-at.false (omega arith) c.put.ensures c.unplaced-rest.ensures c.beside.ensures.beside)
      (omega (arith, c.step-step.ensures.often.is))
      c.requires,
)

pub returns-in-Some-search : goal.returns-in-Some-search
returns-in-Some-search t c =
    let place = tried c.messages-count.ensures.few c.messages-count.ensures.is c.if-count-at.false (omega arith) c.put.ensures c.unplaced-rest.ensures c.beside.ensures.beside in
    found-there c.table_at.ensures.0 c.has_bit.ensures c.if-has_bit.true place c.loop-r.invariant.gone c.in-Some-search.ensures

pub loop-r-preserved : goal.loop-r-preserved
loop-r-preserved t c =
    record {
      gone = elim c.if-has_bit.branch [
        | nothing w ↦
            let place = tried c.messages-count.ensures.few c.messages-count.ensures.is c.if-count-at.false (omega arith) w.put.ensures c.unplaced-rest.ensures w.beside.ensures.beside in
            gone-tried place (rw w.in_default.is at w.search.ensures) c.loop-r.invariant.gone
        | closed w ↦ gone-closed c.table_at.ensures.0 c.has_bit.ensures w.if-has_bit.false (omega (arith, c.messages-count.ensures.is)) c.loop-r.invariant.gone
      ];
      others = c.loop-r.invariant.others;
    }

pub returns : goal.returns
returns t c = passed-all c.in-None.ensures.steps.0 c.loop-c.invariant
