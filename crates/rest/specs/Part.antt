-- Some messages of a problem as a problem of their own: the same matrix, and of the messages only these.
use Rattle.std.specs.Prelude.{ℕ, ◌+◌, ◌<◌, ◌≡◌, List, length, get_or}
use Rattle.rules.specs.Problem.{columns, messages, column_at, message_at, words_for, field, most_columns}
use Rattle.places.specs.Places.{most_planned}

-- where a problem has the number of its messages
abbrev pub count_at : ℕ
count_at = 6

-- how many words a message has
abbrev pub message_words : ℕ
message_words = 7

-- how many words the longest problem that is planned has
abbrev pub part_words : ℕ
part_words = words_for most_columns most_planned

-- q is the problem p with n messages only, those whose numbers are the first words of m
pub record Part (p m : List ℕ) (n : ℕ) (q : List ℕ) : Type 0 where
  pub long : length q ≡ words_for (columns p) n
  pub count : messages q ≡ n
  pub front : (i : ℕ) → i < column_at (columns p) → ¬ (i ≡ count_at) → get_or q i 0 ≡ get_or p i 0
  pub records : (s f : ℕ) → s < n → f < message_words → get_or q (message_at (columns p) s + f) 0 ≡ field p (get_or m s 0) f

-- the first n words of m are messages of p, as they rise
pub record Numbers (p m : List ℕ) (n : ℕ) : Type 0 where
  pub below : (s : ℕ) → s < n → get_or m s 0 < messages p
  pub rising : (s t : ℕ) → s < t → t < n → get_or m s 0 < get_or m t 0

-- r has at slot s the record of message j of p, and before it what q has
pub record Filed (p : List ℕ) (j s : ℕ) (q r : List ℕ) : Type 0 where
  pub long : length r ≡ length q
  pub before : (i : ℕ) → i < message_at (columns p) s → get_or r i 0 ≡ get_or q i 0
  pub here : (f : ℕ) → f < message_words → get_or r (message_at (columns p) s + f) 0 ≡ field p j f
