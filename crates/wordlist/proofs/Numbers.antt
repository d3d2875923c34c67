-- Digits, and what they write one after the other.
use Rattle.std.proofs.Common.{ℕ, ◌+◌, ◌*◌, ◌<◌, ◌≤◌, ◌≡◌, List, get_or, refl, ◌∙◌, ap, add-one, arith, below_more, below_none}
use Rattle.std.proofs.lemmas.Bool.Decides.{nat_tests}
use Rattle.std.specs.Char.{digit_value}
use Rattle.wordlist.specs.Text.{digit, value, Writes}

-- below base 16, the library's value of a byte as a digit is the one that the text says
pub digit-from_value : (c b : ℕ) → b ≤ 16 → digit_value c < b → digit c ≡ digit_value c
unfolding digit
digit-from_value c b w h = grind (arith, nat_tests)

-- no byte yet
pub writes-none : (b : ℕ) (s : List ℕ) → Writes b s 0 0
unfolding value
writes-none b s = record { digits = below_none _; is = refl }

-- one digit more, which the library reads
pub writes_more : {b : ℕ} {s : List ℕ} {n v d r : ℕ} → b ≤ 16 → Writes b s n v → digit_value (get_or s n 0) ≡ d → d < b → r ≡ v * b + d → Writes b s (n + 1) r
unfolding value
writes_more {b} {s} {n} {v} {d} {r} w h e l is =
    let below : digit_value (get_or s n 0) < b = rw e l in
    let same : digit (get_or s n 0) ≡ d = digit-from_value _ b w below ∙ e in
    record { digits = below_more _ _ h.digits (rw same l); is = rw (add-one, same) (is ∙ ap (λ x. x * b + d) h.is) }
