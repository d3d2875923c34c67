-- The refusals in the order of document 01, and then what the search says. What it finds is as long as the plan that it began with: a proposal's words are its first.
use Rattle.std.proofs.Common.{◌≤◌, sym, length, arith}
use Rattle.rules.specs.Problem.{messages}
use Rattle.rules.specs.Tests.{Stand}
use Rattle.planner.specs.Search.{unplanned, Best}
use Rattle.planner.proofs.Room.{best-all, nowhere-all}
use Rattle.planner.proofs.Least.{least-plan, no-plan}
use Rattle.planner.proofs.Promise.{few-tested, first-refused, last-refused, first-clear, not_found, is_found}
use Rattle.planner.proofs.plan_words.Goals as goal

pub returns-in_err-refuse_if : goal.returns-in_err-refuse_if
returns-in_err-refuse_if c = first-refused _ _ (sym (rw c.messages_of.ensures.0 at c.in_err-refuse_if.ensures)) c.from_residual.ensures.1

pub returns-in_err-refuse_if-2 : goal.returns-in_err-refuse_if-2
returns-in_err-refuse_if-2 c =
    first-clear (sym (rw c.messages_of.ensures.0 at c.in_ok-refuse_if.ensures))
    (last-refused _ (sym (rw c.proposal_words-n.ensures.0 at c.in_err-refuse_if-2.ensures)) c.from_residual-in_err-refuse_if-2.ensures.1)

-- ---- there the problem is one that the planner takes, and the buffer is long enough
pub returns-in_default : goal.returns-in_default
returns-in_default c =
    first-clear (sym (rw c.messages_of.ensures.0 at c.in_ok-refuse_if.ensures))
    (not_found (sym (rw c.proposal_words-n.ensures.0 at c.in_ok-refuse_if-2.ensures))
    (no-plan c.requires (nowhere-all c.requires (rw c.in_default.is at c.plan_around.ensures))))

pub returns : goal.returns
returns c =
    let p = c.args.p.now in
    let u = c.in-Some.plan in
    let counted = sym (rw c.messages_of.ensures.0 at c.in_ok-refuse_if.ensures) in
    let few = few-tested (messages p) counted in
    let best : Best (Stand p (messages p)) (messages p) 0 unplanned u = best-all c.requires c.in-Some.ensures in
    let n = c.proposal_words-n.ensures.0 in
    let long : c.proposal_words-n.result ≤ length u = omega (arith, best.long, few) in
    first-clear counted (is_found u (sym (rw n at c.in_ok-refuse_if-2.ensures)) (rw n (least-plan c.requires _ _ (omega (arith, best.long, long)) best)) long c.copy_words.ensures)
