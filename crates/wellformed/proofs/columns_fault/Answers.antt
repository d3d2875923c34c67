use Rattle.std.proofs.Common.{arith, sym, ap₂, ◌+◌, ◌∙◌, below_none}
use Rattle.rules.specs.Problem.{earliest}
use Rattle.rules.proofs.Faults.{handed, first-clear, one-more-clear, first-here}
use Rattle.wellformed.proofs.Words.{has-column, earliest-next}
use Rattle.wellformed.proofs.columns_fault.Goals as goal

pub loop-c-init : goal.loop-c-init
unfolding earliest
loop-c-init c = record { from_is = c.from-from.ensures; clear = below_none _ }

pub column_wrong-requires : goal.column_wrong-requires
column_wrong-requires c = record { from_is = c.loop-c.invariant.from_is; has = has-column c.requires (omega arith) }

pub returns-in_err-refuse_if : goal.returns-in_err-refuse_if
returns-in_err-refuse_if c =
    handed c.from_residual.ensures.1 ∙ first-here c.loop-c.invariant.clear (rw c.column_wrong.ensures at c.refuse_if.ensures) (omega arith) c.in_err-refuse_if.was

pub loop-c-preserved : goal.loop-c-preserved
loop-c-preserved c = record {
  from_is = c.end_of-from.ensures ∙ ap₂ ◌+◌ c.start_in.ensures c.width_in.ensures ∙ earliest-next _ _;
  clear = one-more-clear c.loop-c.invariant.clear (rw c.column_wrong.ensures at c.refuse_if.ensures) c.in_ok-refuse_if.was;
}

pub returns : goal.returns
returns c = sym (first-clear _ _ (λ i l. c.loop-c.invariant.clear i (omega arith)))
