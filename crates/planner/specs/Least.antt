-- What the planner looks for: of all acceptable proposals the least, and of those that keep some placements.
use Rattle.std.specs.Prelude.{ℕ, Bool, true, false, List}
use Rattle.rules.specs.Problem.{messages, InRange}
use Rattle.rules.specs.Sends.{Acceptable}
use Rattle.kept.specs.Kept.{Keeping}
use Rattle.planner.specs.Order.{NotAfter}

-- a choice of one column and one base row for each message whose sends are acceptable
pub record Plan (p w : List ℕ) : Type 0 where
  pub in-range : InRange p w
  pub acceptable : Acceptable p w

-- there is one, and there is none
pub record Plannable (p : List ℕ) : Type 0 where
  pub words : List ℕ
  pub plan : Plan p words

pub record Planless (p : List ℕ) : Type 0 where
  pub none : (w : List ℕ) → Plan p w → ⊥

-- which of the two
abbrev pub Decides : List ℕ → Bool → Type 0
Decides p true = Plannable p
Decides p false = Planless p

-- of the proposals A for n messages, w is the least
pub record LeastOf (A : List ℕ → Type 0) (n : ℕ) (w : List ℕ) : Type 0 where
  pub plan : A w
  pub least : (v : List ℕ) → A v → NotAfter n w v

abbrev pub Least : List ℕ → List ℕ → Type 0
Least p w = LeastOf (Plan p) (messages p) w

-- ---- among the plans that keep the placements k
pub record PlanKeeping (p k w : List ℕ) : Type 0 where
  pub plan : Plan p w
  pub keeping : Keeping p k w

abbrev pub LeastKeeping : List ℕ → List ℕ → List ℕ → Type 0
LeastKeeping p k w = LeastOf (PlanKeeping p k) (messages p) w
