-- The refusals in the order of document 02, and then what completes the kept placements: a proposal's words are its first.
use Rattle.std.proofs.Common.{ℕ, ◌≡◌, ◌≤◌, sym, List, length, arith, Ok}
use lib.Seq.{length-take-le}
use Rattle.rules.specs.Problem.{proposal_words}
use Rattle.row_words.proofs.Taking.{words-none}
use Rattle.proposal.specs.Partial.{kept_fault}
use Rattle.proposal.proofs.KeptMet.{kept-faultless}
use Rattle.planner.specs.Complete.{Completed}
use Rattle.planner.proofs.Promise.{too_many, few_enough, first-refused, last-refused, first-clear, not_found, is_found}
use Rattle.planner.proofs.replan_words.Goals as goal

-- placements without a fault are as many words as a proposal has
words : (p k : List ℕ) → kept_fault p k ≡ Ok tt → length k ≡ proposal_words p
words p k clear = ((kept-faultless p k).0 clear).words

-- and what completes them has as many
long : (p k : List ℕ) {w : List ℕ} → kept_fault p k ≡ Ok tt → Completed p k w → length k ≤ length w
long p k clear done = omega (arith, words p k clear, done.long)

pub kept_fault-requires : goal.kept_fault-requires
kept_fault-requires c = (c.requires, words-none _ _ c.requires)

pub returns-in_err-kept_fault : goal.returns-in_err-kept_fault
returns-in_err-kept_fault c = first-refused _ _ (sym c.in_err-kept_fault.ensures.is) c.from_residual.ensures.1

pub free_group-requires : goal.free_group-requires
free_group-requires c = (omega arith, omega (arith, c.messages_of.ensures, words _ _ (sym c.in_ok-kept_fault.ensures.is)))

-- ---- there is nothing wrong with the placements; the messages without one may be too many, and the buffer too short
pub returns-in_err-group : goal.returns-in_err-group
returns-in_err-group c =
    first-clear (sym c.in_ok-kept_fault.ensures.is) (first-refused _ _ (too_many _ (rw c.messages_of.ensures.0 at c.in_err-group.ensures.count)) c.from_residual-in_err-group.ensures.1)

pub returns-in_err-refuse_if : goal.returns-in_err-refuse_if
returns-in_err-refuse_if c =
    let clear = sym c.in_ok-kept_fault.ensures.is in
    let left = rw c.messages_of.ensures.0 at c.in_ok-group.ensures.count in
    first-clear clear
    (first-clear (few_enough (omega (arith, left.0, left.1)))
    (last-refused _ (sym (rw (words _ _ clear) at c.in_err-refuse_if.ensures)) c.from_residual-in_err-refuse_if.ensures.1))

-- ---- there what is left is few, and the buffer long enough
pub returns-in_default : goal.returns-in_default
returns-in_default c =
    let clear = sym c.in_ok-kept_fault.ensures.is in
    let left = rw c.messages_of.ensures.0 at c.in_ok-group.ensures.count in
    first-clear clear
    (first-clear (few_enough (omega (arith, left.0, left.1)))
    (not_found (sym (rw (words _ _ clear) at c.in_ok-refuse_if.ensures)) (rw c.in_default.is at c.complete.ensures)))

-- what was found has a proposal's words
pub slice_bounds-whole-end : goal.slice_bounds-whole-end
slice_bounds-whole-end c = long _ _ (sym c.in_ok-kept_fault.ensures.is) c.in-Some.ensures

pub slice_bounds-copy_words-end : goal.slice_bounds-copy_words-end
slice_bounds-copy_words-end c = sym (length-take-le _ c.in-Some.whole (long _ _ (sym c.in_ok-kept_fault.ensures.is) c.in-Some.ensures))

pub returns : goal.returns
returns c =
    let clear = sym c.in_ok-kept_fault.ensures.is in
    let left = rw c.messages_of.ensures.0 at c.in_ok-group.ensures.count in
    let best : Completed c.args.p.now c.args.kept.now c.in-Some.whole = c.in-Some.ensures in
    first-clear clear
    (first-clear (few_enough (omega (arith, left.0, left.1)))
    (is_found c.in-Some.whole (sym (rw (words _ _ clear) at c.in_ok-refuse_if.ensures)) (rw (words _ _ clear) best.least) (long _ _ clear best) c.copy_words.ensures))
