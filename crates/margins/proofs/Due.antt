-- In an acceptable proposal every send that serves an instance starts exactly the wait behind its release and ends exactly the slack before it is due.
use Prim.Native.Nat.{ℕ, ◌+◌, ◌*◌, ◌<◌}
use mathlib.Core.Path.{◌≡◌, ap}
use mathlib.Core.List.{List}
use native.Mathlib.Omega.{arith}
use Rattle.std.specs.Prelude.{Ok}
use Rattle.rules.specs.Problem.{WellFormed, InRange, Gives, cycle, messages, start, period, offset, deadline, lasts, column, row}
use Rattle.rules.specs.Sends.{send_at, release, Serves, Acceptable}
use Rattle.rules.specs.Tests.{wait, own_fault, proposal_fault}
use Rattle.rules.proofs.Digits.{Phase, phase, only}
use Rattle.rules.proofs.Meaning.{alone-own, faultless}
use Rattle.rules.proofs.Slots.{Slot, slot}
use Rattle.rules.proofs.Exact.{exact}
use Rattle.margins.specs.declared.Margin.{Margin}
use Rattle.margins.specs.Margins.{Leaves, MarginOf}

module _ (p w : List ℕ) (j : ℕ) (s : Slot p w j) where
  -- the wait is that from a release to a send
  waiting : Phase (period p j) (row w j * cycle p + start p (column w j)) (offset p j) (wait p j (column w j) (row w j))
  unfolding wait
  waiting = phase _ _ _ s.send-below s.offset-below

  -- to the send that serves it
  waits : (i n : ℕ) → Serves p w j i n → release p j i + wait p j (column w j) (row w j) ≡ send_at p w j n
  unfolding send_at release
  waits i n h =
      let e : n ≡ i + waiting.first =
      only (period p j) (wait p j (column w j) (row w j)) (lasts p j) (deadline p j) (i + waiting.first) n
      waiting.below s.deadline-most (omega arith) (omega (arith, h, waiting.is)) (omega (arith, h, waiting.is)) in
      omega (arith, waiting.is, ap (◌* period p j) e)

-- nothing is wrong with a message of a proposal without a fault
own : (p w : List ℕ) → proposal_fault p w ≡ Ok tt → (j : ℕ) → j < messages p → own_fault p j (column w j) (row w j) ≡ Ok tt
own p w e j l = alone-own p j (column w j) (row w j) (((faultless p w).0 e).each j l).alone

-- with the margin that margin_of hands back
module _ (p w : List ℕ) (wf : WellFormed p) (r : InRange p w) (a : Acceptable p w) (j : ℕ) (l : j < messages p) where
  s : Slot p w j
  s = slot p w wf j l (r.placed j l)

  gives : Gives w j
  gives = let e = r.words in omega arith

  -- what it says of each message
  pub leaves : {m : Margin} → MarginOf p w j m → Leaves p j (column w j) (row w j) m
  leaves h = (h.given gives).can (own p w ((exact p w wf).1 (r, a)) j l)

  pub starts-behind : {m : Margin} → MarginOf p w j m → (i n : ℕ) → Serves p w j i n → release p j i + m.wait ≡ send_at p w j n
  starts-behind h i n v = let e = leaves h in let d = waits p w j s i n v in omega arith

  pub ends-before : {m : Margin} → MarginOf p w j m → (i n : ℕ) → Serves p w j i n → send_at p w j n + lasts p j + m.slack ≡ release p j i + deadline p j
  ends-before h i n v = let e = leaves h in let d = waits p w j s i n v in omega arith
