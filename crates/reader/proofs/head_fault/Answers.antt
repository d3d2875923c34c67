-- The tests in their order: each is made where the ones before it have passed.
use Rattle.std.proofs.Common.{◌∙◌}
use Rattle.rules.proofs.Faults.{handed}
use Rattle.rules.specs.Rules.{header_fault}
use Rattle.problem.specs.File.{words_in}
use Rattle.problem.specs.Wrong.{head_fault}
use Rattle.problem.proofs.Wrong.{header_read}
use Rattle.reader.proofs.head_fault.Goals as goal

pub returns-in_err-refuse_if : goal.returns-in_err-refuse_if
unfolding head_fault
returns-in_err-refuse_if c =
    handed c.from_residual.ensures.1
    ∙ rw (← c.in_err-refuse_if.ensures)

pub returns-in_err-refuse_if-2 : goal.returns-in_err-refuse_if-2
unfolding head_fault
returns-in_err-refuse_if-2 c =
    handed c.from_residual-in_err-refuse_if-2.ensures.1
    ∙ rw (← c.in_ok-refuse_if.ensures, ← c.is_marked.ensures, ← c.in_err-refuse_if-2.ensures)

pub returns-in_err-refuse_if-3 : goal.returns-in_err-refuse_if-3
unfolding head_fault
returns-in_err-refuse_if-3 c =
    handed c.from_residual-in_err-refuse_if-3.ensures.1
    ∙ rw (← c.in_ok-refuse_if.ensures, ← c.is_marked.ensures, ← c.in_ok-refuse_if-2.ensures, ← c.two_bytes-version.ensures.0, ← c.is_version.ensures, ← c.in_err-refuse_if-3.ensures)

pub returns-in_err-header_fault : goal.returns-in_err-header_fault
unfolding head_fault header_fault words_in
returns-in_err-header_fault c =
    handed c.from_residual-in_err-header_fault.ensures.1
    ∙ rw (← c.in_ok-refuse_if.ensures, ← c.is_marked.ensures, ← c.in_ok-refuse_if-2.ensures, ← c.two_bytes-version.ensures.0, ← c.is_version.ensures, ← c.in_ok-refuse_if-3.ensures, ← header_read _ c.read_header.ensures c.in_err-header_fault.ensures)

pub returns-in_err-refuse_if-4 : goal.returns-in_err-refuse_if-4
unfolding head_fault header_fault words_in
returns-in_err-refuse_if-4 c =
    handed c.from_residual-in_err-refuse_if-4.ensures.1
    ∙ rw (← c.in_ok-refuse_if.ensures, ← c.is_marked.ensures, ← c.in_ok-refuse_if-2.ensures, ← c.two_bytes-version.ensures.0, ← c.is_version.ensures, ← c.in_ok-refuse_if-3.ensures, ← header_read _ c.read_header.ensures c.in_ok-header_fault.ensures, ← c.in_err-refuse_if-4.ensures)

pub returns : goal.returns
unfolding head_fault header_fault words_in
returns c =
    rw (← c.in_ok-refuse_if.ensures, ← c.is_marked.ensures, ← c.in_ok-refuse_if-2.ensures, ← c.two_bytes-version.ensures.0, ← c.is_version.ensures, ← c.in_ok-refuse_if-3.ensures, ← header_read _ c.read_header.ensures c.in_ok-header_fault.ensures, ← c.in_ok-refuse_if-4.ensures) (rw (c.layout_of.ensures, c.columns_in.ensures.0, c.messages_in.ensures.0) at (rw c.bytes_for-bytes.ensures at c.refuse_if-5.ensures))
