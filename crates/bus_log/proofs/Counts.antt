-- The sends of a matrix cycle, counted message by message.
use Rattle.std.proofs.Common.{ℕ, ◌+◌, ◌*◌, ◌/◌, ◌≤◌, ◌≡◌, ap₂, List, div-le_self, arith}
use Rattle.basics.specs.Sums.{sum}
use Rattle.basics.proofs.Sums.{sum-next, sum-most}
use Rattle.rules.specs.Problem.{most_rows, most_messages, rows, messages, repeat, WellFormed}
use Rattle.bus_log.specs.Span.{cycle_sends}
use Rattle.bus_log.specs.Rows.{cycle_most}

-- n are the references, and the sends of the first j messages, none of which is sent more than once a row
pub record Counted (p : List ℕ) (j n : ℕ) : Type 0 where
  pub is : n ≡ rows p + sum j (λ i. rows p / repeat p i)
  pub few : n ≤ (1 + j) * most_rows

module _ {p : List ℕ} {n : ℕ} where
  pub counted_none : n ≡ rows p → n ≤ most_rows → Counted p 0 n
  unfolding sum
  counted_none e l = record { is = omega arith; few = omega arith }

  pub counted-more : {j r q : ℕ} → Counted p j n → r ≡ rows p → r ≤ most_rows → q ≡ repeat p j → Counted p (j + 1) (n + r / q)
  counted-more {j} {r} {q} h er l eq =
      record {
        is = omega (arith, h.is, sum-next j (λ i. rows p / repeat p i), ap₂ ◌/◌ er eq);
        few = omega (arith, h.few, div-le_self r q);
      }

  pub counted-all : {j : ℕ} → Counted p j n → j ≡ messages p → j ≤ most_messages → (n ≡ cycle_sends p) × (n ≤ cycle_most)
  unfolding cycle_sends
  counted-all h e l = (rw e at h.is, omega (arith, h.few))

-- so they are few in any well-formed problem
pub sends-most : {p : List ℕ} → WellFormed p → cycle_sends p ≤ cycle_most
unfolding cycle_sends
sends-most {p} formed =
    let each = sum-most (messages p) most_rows (λ j. rows p / repeat p j) (λ j l. omega (arith, div-le_self (rows p) (repeat p j), formed.header.rows-most)) in
    omega (arith, each, formed.header.rows-most, formed.header.messages-most)
