-- A log compared with what is due, pair by pair.
use Rattle.std.proofs.Common.{ℕ, ◌+◌, ◌*◌, ◌%◌, ◌<◌, ◌≡◌, subst, List, arith, length}
use native.Mathlib.Decide.{dec_lt}
use Rattle.bus_log.specs.Parts.{Follows, Agreed}

module _ {x log : List ℕ} {later : ℕ} where
  pub agreed-none : Agreed x later log 0
  agreed-none = record { whole = omega arith; inside = omega arith; in-log = omega arith; follows = λ k l. absurd (omega arith) }

  -- one pair more, where the lengths are even, so that no pair is cut
  pub agreed-more : {r : ℕ} → length x % 2 ≡ 0 → length log % 2 ≡ 0 → r < length x → r < length log → Agreed x later log r → Follows x later log r → Agreed x later log (r + 2)
  agreed-more {r} ex el lx ll a f =
      let even = a.whole in
      record {
        whole = omega arith;
        inside = omega arith;
        in-log = omega arith;
        follows = λ k l. elim (dec_lt (2 * k) r) [
          | yes h ↦ a.follows k h
          | no h ↦ (let e : r ≡ 2 * k = omega arith in subst (Follows x later log) e f)
        ];
      }
