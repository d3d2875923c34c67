-- What is kept has each column of x that is paid for: only one that costs too much is cleared.
use Rattle.prices.specs.Prices.{PaidIn}
use Rattle.prices.proofs.paid_in.Given as goal

abbrev pub invariant-loop-c : goal.invariant-loop-c
invariant-loop-c l = PaidIn l.sums l.step l.r l.others l.most l.x l.kept
