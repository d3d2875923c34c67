-- A call without a fault has events that keep the rules, their busy periods and room for their times, which is what filling asks for.
use Rattle.std.proofs.Common.{sym, ◌∙◌, arith}
use Rattle.std.proofs.lemmas.Result.{err_from_is_err_and}
use Rattle.response.proofs.Faults.{clear-ready}
use Rattle.response.proofs.Results.{responding-refused, responding-done}
use Rattle.response.proofs.responses.Goals as goal

pub returns-in_err-call_fault : goal.returns-in_err-call_fault
returns-in_err-call_fault c =
    let p = err_from_is_err_and c.from_residual.result c.from_residual.ensures.1 in
    rw (p.1, p.2) (responding-refused _ _ c.call_fault.ensures.fault-is c.in_err-call_fault.was)

pub fill-requires : goal.fill-requires
fill-requires c =
    let clear = c.in_ok-call_fault.was in
    let ready = clear-ready _ _ (sym c.call_fault.ensures.fault-is ∙ clear) in
    (ready.sound, c.call_fault.ensures.spans clear, omega (arith, ready.sound.whole.count_most), ready.fits)

pub returns : goal.returns
returns c = responding-done _ _ c.call_fault.ensures.fault-is c.in_ok-call_fault.was c.fill.ensures.0 c.fill.ensures.1
