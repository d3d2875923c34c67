-- The events' fault is passed on; where there is none, the busy periods may be sought, and the first fault of those and of the room is left.
use Rattle.std.proofs.Common.{◌≡◌, Ok, Err, sym, ◌∙◌, refl, arith}
use Rattle.std.proofs.lemmas.Result.{err_from_is_err_and}
use Rattle.std.specs.Result.{result_and}
use Rattle.rules.specs.Refusal.{Fault, ◌⊕◌}
use Rattle.response.proofs.Faults.{clear-sound, call-events}
use Rattle.response.proofs.Spans.{noted-bad, noted-rest}
use Rattle.response.proofs.call_fault.Goals as goal

and-first : (a b : Fault) → result_and a b ≡ a ⊕ b
and-first (Ok tt) b = refl
and-first (Err q) b = refl

pub returns-in_err-events_fault : goal.returns-in_err-events_fault
returns-in_err-events_fault c =
    let p = err_from_is_err_and c.from_residual.result c.from_residual.ensures.1 in
    rw (p.1, p.2) (noted-bad (call-events _ _ c.events_fault.ensures c.in_err-events_fault.was))

pub busy_fault-requires : goal.busy_fault-requires
busy_fault-requires c =
    let sound = clear-sound _ (sym c.events_fault.ensures ∙ c.in_ok-events_fault.was) in
    (sound, omega (arith, sound.whole.count_most, c.requires))

pub returns : goal.returns
returns c =
    noted-rest _ _ _ c.events_fault.ensures c.in_ok-events_fault.was c.busy_fault.ensures
    c.count_of.ensures c.room_fault.ensures (c.and.ensures ∙ and-first c.busy_fault.result c.room_fault.result)
