-- A problem of some messages, written from the front: the header and the columns, then the record of one message behind the other.
use Rattle.std.proofs.Common.{◌≡◌, ℕ, ◌+◌, ◌<◌, List, get_or}
use Rattle.rules.specs.Problem.{columns, messages, column_at, message_at, field}
use Rattle.rest.specs.Part.{count_at, message_words}

-- in the buffer q everything is written but the records from that of slot s on
pub record Begun (p m : List ℕ) (n s : ℕ) (q : List ℕ) : Type 0 where
  pub count : messages q ≡ n
  pub front : (i : ℕ) → i < column_at (columns p) → ¬ (i ≡ count_at) → get_or q i 0 ≡ get_or p i 0
  pub records : (t : ℕ) → t < s → (f : ℕ) → f < message_words → get_or q (message_at (columns p) t + f) 0 ≡ field p (get_or m t 0) f
