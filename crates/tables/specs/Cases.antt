-- What a starred case says: a statement about the definitions that the promises cite, never about code.
use Rattle.std.specs.Prelude.{ℕ, ◌+◌, ◌≡◌, List, replicate, Ok}
use Rattle.rules.specs.Problem.{matrix, frame, InRange, WellFormed}
use Rattle.rules.specs.Sends.{Acceptable}
use Rattle.rules.specs.Paper.{at, between, paper}
use Rattle.rules.specs.Tests.{proposal_fault}
use Rattle.problem.specs.declared.layout.Layout.TheVariants.{One}
use Rattle.problem.specs.Wrong.{held_fault}
use Rattle.losses.specs.declared.BusTime.{BusTime}
use Rattle.losses.specs.Losses.{FiguresAre}
use Rattle.planner.specs.Least.{Plan, Least}
use Rattle.response.specs.Events.{count}
use Rattle.response.specs.Promise.{Responding}

pub data Case : Type 0 where
  -- a frame of s data bytes takes c
  lasts : (s c : ℕ) → Case
  -- w is the least acceptable proposal of p; p has none
  plans : (p w : List ℕ) → Case
  plans-none : (p : List ℕ) → Case
  -- the proposal w for p loses so much in the reference, uses so much, loses so much in windows, in empty cells and in gaps
  loses : (p w : List ℕ) (a b c d e : ℕ) → Case
  -- the proposal w for p is acceptable; it is refused with a number, a place and a second place
  accepts : (p w : List ℕ) → Case
  refuses : (p w : List ℕ) (n j i : ℕ) → Case
  -- version 1 cannot hold the problem p: that is refused with a number and a place
  unheld : (p : List ℕ) (n j : ℕ) → Case
  -- for the events e the words t are written, and m are missed
  responds : (e t : List ℕ) (m : ℕ) → Case

-- five figures as a call answers them
abbrev pub figures : ℕ → ℕ → ℕ → ℕ → ℕ → BusTime
figures a b c d e = record { reference = a; used = b; in_window = c; empty = d; gaps = e }

abbrev pub Says : Case → Type 0
Says (lasts s c) = frame s ≡ c
Says (plans p w) = WellFormed p × Least p w
Says (plans-none p) = WellFormed p × ((w : List ℕ) → ¬ Plan p w)
Says (loses p w a b c d e) = WellFormed p × FiguresAre (Ok tt) p w (figures a b c d e) × (a + b + c + d + e ≡ matrix p)
Says (accepts p w) = WellFormed p × InRange p w × Acceptable p w
Says (refuses p w n j i) = WellFormed p × (paper (proposal_fault p w) ≡ between n j i)
Says (unheld p n j) = paper (held_fault One p) ≡ at n j
Says (responds e t m) = Responding e (replicate (count e) 0) t (Ok m)
