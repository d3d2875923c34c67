-- The four slips of document 01 beside the plans that they spoil, computed as one table.
use Prim.Native.Nat.{ℕ}
use mathlib.Core.Path.{◌≡◌, refl}
use mathlib.Core.Bool.{Bool}
use mathlib.Core.List.{List, [], ◌∷◌}
use Rattle.basics.specs.Bits.{bit}
use Rattle.basics.specs.Sums.{sum}
use Rattle.basics.specs.Tests.{every, some}
use Rattle.rules.specs.declared.Refusal.TheVariants.{Width, Late, Meeting}
use Rattle.rules.specs.Problem.{earliest, triggers, column, row, InRange}
use Rattle.rules.specs.Sends.{Acceptable}
use Rattle.rules.specs.Refusal.{first_fault, Fault}
use Rattle.rules.specs.Tests.{in_range, fits, wait, timely, common, meets, own_fault, meeting_fault, fault, proposal_fault}
use Rattle.rules.specs.Rules.{header_fault, column_wrong, repeated, identity_wrong, on_grid, timing_wrong, overloaded, words_fault}
use Rattle.rules.proofs.Formed.{is_formed, is-formed}
use Rattle.basics.proofs.Tests.{every-at}
use Rattle.rules.proofs.Faults.{bad-not-clear}
use Rattle.rules.proofs.Meaning.{range-placed}
use Rattle.rules.proofs.Exact.{exact}
use Rattle.std.specs.Prelude.{Err, Ok}

-- T1, with the deadline of message 32 and the offset of message 48
t1 : ℕ → ℕ → List ℕ
t1 d o =
    2 ∷ 400 ∷ 65 ∷ 1 ∷ 32 ∷ 3 ∷ 3 ∷ 65 ∷ 135 ∷ 0 ∷ 200 ∷ 100 ∷ 0 ∷ 300 ∷ 100 ∷ 0
    ∷ 16 ∷ 0 ∷ 8 ∷ 2 ∷ 400 ∷ 0 ∷ 400
    ∷ 32 ∷ 1 ∷ 1 ∷ 1 ∷ 800 ∷ 400 ∷ d
    ∷ 48 ∷ 1 ∷ 4 ∷ 1 ∷ 800 ∷ o ∷ 800 ∷ []

-- T1's grid, with two messages: of so many data bytes and such periods
two : ℕ → ℕ → ℕ → ℕ → List ℕ
two s t a b =
    2 ∷ 400 ∷ 65 ∷ 1 ∷ 32 ∷ 3 ∷ 2 ∷ 65 ∷ 135 ∷ 0 ∷ 200 ∷ 100 ∷ 0 ∷ 300 ∷ 100 ∷ 0
    ∷ 16 ∷ 0 ∷ s ∷ 2 ∷ a ∷ 0 ∷ a
    ∷ 32 ∷ 0 ∷ t ∷ 2 ∷ b ∷ 0 ∷ b ∷ []

-- one message, released late in its row, with the column at 200
late : List ℕ
late = 1 ∷ 400 ∷ 65 ∷ 1 ∷ 32 ∷ 1 ∷ 1 ∷ 200 ∷ 100 ∷ 0 ∷ 16 ∷ 0 ∷ 1 ∷ 0 ∷ 400 ∷ 350 ∷ 100 ∷ []

-- what a plan comes to; `unfolding seen` opens all that a table has to compute
seen : List ℕ → List ℕ → Fault
unfolding proposal_fault first_fault fault own_fault in_range fits timely meeting_fault meets common wait t1 two late
seen p w = proposal_fault p w

table : (
    -- first fit without going back: message 0 in the only column that message 1 fits; and the plan that there is
    seen (two 4 8 400 400) (0 ∷ 0 ∷ 1 ∷ 0 ∷ [])
    ∷ seen (two 4 8 400 400) (1 ∷ 0 ∷ 0 ∷ 0 ∷ [])
    -- a send before the offset, though the next one serves the instance
    ∷ seen (t1 300 700) (0 ∷ 0 ∷ 1 ∷ 1 ∷ 1 ∷ 0 ∷ [])
    -- base rows as they stand: repeat 1, row 0 meets repeat 2, row 1
    ∷ seen (two 4 4 400 800) (1 ∷ 0 ∷ 1 ∷ 1 ∷ [])
    -- only what falls due within the first matrix cycle: a send at 200 serves no instance
    ∷ seen late (0 ∷ 0 ∷ [])
    -- and T1 itself, with its plan and with 13 at place 2, second place 1
    ∷ seen (t1 300 0) (0 ∷ 0 ∷ 1 ∷ 1 ∷ 1 ∷ 0 ∷ [])
    ∷ seen (t1 300 0) (0 ∷ 0 ∷ 1 ∷ 1 ∷ 1 ∷ 1 ∷ [])
    ∷ []
    )
    ≡ (Err (Width 1) ∷ Ok tt ∷ Ok tt ∷ Err (Meeting 1 0) ∷ Err (Late 0) ∷ Ok tt ∷ Err (Meeting 2 1) ∷ [])
unfolding seen
table = refl

-- so by the theorem the sends of the second slip are acceptable, and those of the fourth are not
kept : List ℕ → Bool
unfolding is_formed header_fault words_fault first_fault column_wrong identity_wrong repeated timing_wrong on_grid overloaded triggers sum bit earliest every some t1 late
kept p = is_formed p

early-send-acceptable : Acceptable (t1 300 700) (0 ∷ 0 ∷ 1 ∷ 1 ∷ 1 ∷ 0 ∷ [])
unfolding seen kept
early-send-acceptable =
    ((exact (t1 300 700) (0 ∷ 0 ∷ 1 ∷ 1 ∷ 1 ∷ 0 ∷ []) (is-formed (t1 300 700) tt)).0 refl).1

late-release-not : ¬ Acceptable late (0 ∷ 0 ∷ [])
unfolding seen kept
late-release-not a =
    let w : List ℕ = 0 ∷ 0 ∷ [] in
    let in-range : InRange late w = record {
      words = refl;
      placed = λ j l. range-placed late j (column w j) (row w j) (every-at 1 (λ j. in_range late j (column w j) (row w j)) tt j l);
    } in
    bad-not-clear ((exact late w (is-formed late tt)).1 (in-range, a)) refl
