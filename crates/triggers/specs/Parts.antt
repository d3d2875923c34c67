-- What the parts of the call ask and hand back.
use Rattle.std.specs.Prelude.{ℕ, ◌*◌, ◌<◌, ◌≤◌, ◌≡◌, true, false, List, ◌++◌, length, take, drop, Option, MatchOption}
use Rattle.basics.specs.Runs.{run}
use Rattle.basics.specs.Sums.{sum}
use Rattle.rules.specs.Parts.{Member}
use Rattle.rules.specs.Problem.{most_triggers, most_rows, most_messages, columns, Gives, column, row, nodes, triggers}
use Rattle.rules.specs.Sends.{message}
use Rattle.proposal.specs.Accepted.{Accepted}
use Rattle.triggers.specs.declared.Role.{Role}
use Rattle.triggers.specs.declared.Role.TheVariants.{Sends, Receives}
use Rattle.triggers.specs.Lists.{concerns, kind}
use Rattle.triggers.specs.Order.{packed, sorted, order, count_word}

-- j is a message of p, and the proposal w gives it a column and a row
pub record Settled (p w : List ℕ) (j : ℕ) : Type 0 where
  pub member : Member p j
  pub gives : Gives w j
  pub column-below : column w j < columns p
  pub row_below : row w j < most_rows

-- the first j messages stand in their order at the front of o
pub record Ordered (p w : List ℕ) (j : ℕ) (o : List ℕ) : Type 0 where
  pub long : length o ≡ most_messages
  pub front : take j o ≡ sorted j (packed p w)

-- the proposal w is accepted for p, and o has the messages in the order of their entries
pub record Arranged (p w o : List ℕ) : Type 0 where
  pub accepted : Accepted p w
  pub order_is : o ≡ order p w

-- the kind of the entry of a message, by what the node does with it
abbrev pub number : Role → ℕ
number Sends = 1
number Receives = 2

-- r says that message j concerns node n, and of which kind its entry is, or that it does not
abbrev pub RoleOf : List ℕ → ℕ → ℕ → Option Role → Type 0
RoleOf p n j r = MatchOption r (concerns p n j ≡ false) (λ k. (concerns p n j ≡ true) × (kind p n (message j) ≡ number k))

-- c has the triggers of nodes 0 to n - 1, t together, in front of what d has
pub record Counts (p d c : List ℕ) (n t : ℕ) : Type 0 where
  pub counts : c ≡ run n (count_word p) ++ drop n d
  pub long : length c ≡ nodes
  pub total : t ≡ sum n (triggers p)
  pub few : t ≤ n * most_triggers
