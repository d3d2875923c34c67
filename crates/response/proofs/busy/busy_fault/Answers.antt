-- The event at which the loop is left has no busy period, as those before it have.
use Rattle.std.proofs.Common.{◌≡◌, None, Some, arith}
use Rattle.std.proofs.lemmas.Result.{err_from_is_err_and}
use Rattle.rules.specs.declared.Refusal.TheVariants.{Endless}
use Rattle.response.proofs.Spans.{noted-none, noted-all, spans-more}
use Rattle.response.proofs.busy.busy_fault.Goals as goal

pub returns-in_err-spans : goal.returns-in_err-spans
returns-in_err-spans c =
    let p = err_from_is_err_and c.from_residual.result c.from_residual.ensures.1 in
    let none : c.busy_of.result ≡ None = c.in_err-spans.ensures.ok_part in
    let said = rw none at c.in_err-spans.ensures.value in
    let endless : c.in_err-spans.field-0.0 ≡ Endless c.loop-j.j = cc said in
    rw (p.1, p.2, endless) (noted-none c.loop-j.invariant (omega arith) (rw none at c.busy_of.ensures))

pub loop-j-preserved : goal.loop-j-preserved
loop-j-preserved c =
    let some : c.busy_of.result ≡ Some c.in_ok-spans.field-0 = c.in_ok-spans.ensures.ok_part in
    spans-more c.loop-j.invariant (omega arith) (rw some at c.busy_of.ensures)

pub returns : goal.returns
returns c = noted-all c.loop-j.invariant (omega arith)
