-- Laws of the columns that a message may take by itself, in cells that are not taken.
use Prim.Native.Nat.{ℕ, ◌<◌, ◌≤◌}
use mathlib.Core.Path.{◌≡◌}
use mathlib.Core.List.{List}
use native.Mathlib.Omega.{arith}
use Rattle.basics.specs.Bits.{Has}
use Rattle.basics.proofs.Bits.{has-none}
use Rattle.rules.specs.Problem.{most_columns, rows, columns, repeat}
use Rattle.rules.specs.Tests.{own_fault}
use Rattle.row_words.specs.RowWords.{FreeIn}
use Rattle.places.specs.Places.{Allowed}
use Rattle.places.proofs.Meets.{own-placed}
use Rattle.std.specs.Prelude.{Ok}

-- x has exactly the columns below n in which message j may stand with base row r
pub record AllowedBelow (p : List ℕ) (j r n x : ℕ) : Type 0 where
  pub holds : (c : ℕ) → c < n → own_fault p j c r ≡ Ok tt → Has x c
  pub only : (c : ℕ) → Has x c → own_fault p j c r ≡ Ok tt

module _ (p : List ℕ) (j r : ℕ) where
  pub allowed-none : AllowedBelow p j r 0 0
  allowed-none = record { holds = λ c l e. absurd (omega arith); only = λ c h. absurd (has-none c h) }

  -- and of these y has those that are free in the message's rows
  pub allowed_all : {n x y step high : ℕ} {o : List ℕ} → columns p ≤ most_columns → columns p ≤ n → AllowedBelow p j r n x → step ≡ repeat p j → high ≡ rows p → FreeIn o r step high x y → Allowed p o j r y
  allowed_all {o = o} low h A es eh f =
      let F = rw (es, eh) at f in
      let below : (c : ℕ) → own_fault p j c r ≡ Ok tt → c < columns p = λ c e. (own-placed p j c r e).column-below in
      record {
        holds = λ c O. let l = below c O.own in F.keeps c (omega arith) (A.holds c (omega arith) O.own) O.free;
        only = λ c g.
            let own = A.only c (F.only c g) in
            let l = below c own in
            record { own = own; free = F.unset c (omega arith) g };
      }
