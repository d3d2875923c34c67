-- Both lists have whole pairs, and so does `most`: no pair is cut.
use Rattle.std.proofs.Common.{arith, ◌≡◌, ◌*◌, ◌+◌}
use Rattle.bus_log.proofs.Comparing.{agreed-none, agreed-more}
use Rattle.bus_log.proofs.agreeing.Goals.{then-log-at-via-then-log-at as another-time, then-log-at-via-else-log-at+then-log-at-2 as another-identifier}
use Rattle.bus_log.proofs.agreeing.Goals as goal

pub loop-pair-init : goal.loop-pair-init
loop-pair-init c = agreed-none

pub returns-then-log-at : goal.returns-then-log-at
returns-then-log-at c =
    record { agreed = c.loop-pair.invariant; stops = λ lx ll f. elim c.then-log-at.branch [ another-time w ↦ omega (arith, f.time) | another-identifier w ↦ omega (arith, f.identifier) ] }

pub loop-pair-preserved : goal.loop-pair-preserved
loop-pair-preserved c =
    let next : 2 * (c.loop-pair.pair + 1) ≡ 2 * c.loop-pair.pair + 2 = omega arith in
    rw next (agreed-more c.requires.0 c.requires.1 (omega arith) (omega arith) c.loop-pair.invariant (record { time = omega arith; identifier = omega arith }))
