-- Why a problem has no plan: a smallest set of its messages that have none together.
use Rattle.std.specs.Prelude.{ℕ, ◌<◌, ◌≡◌, List, get_or}
use Rattle.rest.specs.Free.{Slot}
use Rattle.rest.specs.Part.{Part, Numbers}
use Rattle.planner.specs.Least.{Plannable, Planless}

-- ---- the messages of p whose numbers are the first n words of m
-- they have a plan together: the problem that they make by themselves has one
pub record Together (p m : List ℕ) (n : ℕ) : Type 0 where
  pub own : List ℕ
  pub part : Part p m n own
  pub plan : Plannable own

-- they have none
pub record Crowded (p m : List ℕ) (n : ℕ) : Type 0 where
  pub own : List ℕ
  pub part : Part p m n own
  pub none : Planless own

-- the first h words of k are among them
pub record Among (k : List ℕ) (h : ℕ) (m : List ℕ) (n : ℕ) : Type 0 where
  pub each : (s : ℕ) → s < h → Slot m n (get_or k s 0)

-- they have none, and any fewer of them have one
pub record Crowd (p m : List ℕ) (n : ℕ) : Type 0 where
  pub numbers : Numbers p m n
  pub some : 0 < n
  pub none : Crowded p m n
  pub fewer : (k : List ℕ) (h : ℕ) → Numbers p k h → Among k h m n → h < n → Together p k h

-- ---- what is answered: no message where p has a plan, and else such a set
pub data Explained (p m : List ℕ) (n : ℕ) : Type 0 where
  planned : n ≡ 0 → Plannable p → Explained p m n
  crowd : Planless p → Crowd p m n → Explained p m n
