-- Messages with a cell in common meet, so that what has no fault has no two such messages.
use Prim.Native.Nat.{ℕ, ◌/◌, ◌%◌, ◌<◌}
use mathlib.Core.Path.{◌≡◌, refl, sym, ap, subst, ◌∙◌}
use mathlib.Core.List.{List}
use mathlib.Core.Logic.{⊎_elim}
use native.Mathlib.Nat.{min_comm, mod-add-div'}
use native.Mathlib.Omega.{arith}
use Rattle.basics.proofs.Tests.{below_or}
use Rattle.rules.specs.Problem.{most_columns, messages, repeat, column, row, Placed}
use Rattle.rules.specs.Tests.{common, own_fault, fault, Stand}
use Rattle.rules.specs.Parts.{Member}
use Rattle.rules.proofs.Bounds.{member}
use Rattle.rules.proofs.Cells.{cell-meets}
use Rattle.rules.proofs.Meaning.{own_alone, alone-own, Meets, is-meets, fault-sound}
use Rattle.places.specs.Places.{Few, Clash}
use Rattle.std.specs.Prelude.{Ok}

-- ---- a message by itself
pub own-placed : (p : List ℕ) (j c r : ℕ) → own_fault p j c r ≡ Ok tt → Placed p j c r
own-placed p j c r e = (own_alone p j c r e).placed

pub fault-own : (p w : List ℕ) (j : ℕ) → fault p w j ≡ Ok tt → own_fault p j (column w j) (row w j) ≡ Ok tt
fault-own p w j e = alone-own p j (column w j) (row w j) (fault-sound p w j e).alone

-- the column of a message that is placed is a digit of a word
pub low_column : {p : List ℕ} {j c r : ℕ} → Few p → Placed p j c r → c < most_columns
low_column F P = let below = P.column-below in let most = F.formed.header.columns-most in omega arith

-- ---- two messages
-- two messages of one column and with a row in common have a cell in common, and meet
share : {p : List ℕ} {j k : ℕ} → Member p j → Member p k → (w : List ℕ) (i : ℕ) → column w j ≡ column w k → i % repeat p j ≡ row w j
    → i % repeat p k ≡ row w k → Meets p w j k
share {p} {j} {k} mj mk w i e ej ek =
    cell-meets mj mk {i = i}
    record { same-column = e; turn = i / repeat p j; same_row = omega (arith, mod-add-div' i (repeat p j)) }
    record { same-column = refl; turn = i / repeat p k; same_row = omega (arith, mod-add-div' i (repeat p k)) }

-- places that clash are those of messages that meet
module _ {p w : List ℕ} {m c r j d i : ℕ} (ec : column w m ≡ c) (er : row w m ≡ r) (ed : column w j ≡ d) (ei : row w j ≡ i) where
  pub clash-meets : Clash p m c r j d i → Meets p w m j
  clash-meets K =
      let n = common p m j in
      record { one-column = ec ∙ sym K.one-column ∙ sym ed; rows_agree = ap (λ (x : ℕ). x % n) er ∙ sym K.rows_agree ∙ ap (λ (x : ℕ). x % n) (sym ei) }

  pub meets-clash : Meets p w m j → Clash p m c r j d i
  meets-clash M =
      let n = common p m j in
      record { one-column = sym ed ∙ sym M.one-column ∙ ec; rows_agree = ap (λ (x : ℕ). x % n) (sym ei) ∙ sym M.rows_agree ∙ ap (λ (x : ℕ). x % n) er }

pub turned : {p w : List ℕ} {j k : ℕ} → Meets p w j k → Meets p w k j
unfolding common
turned {p} {w} {j} {k} M =
    record { one-column = sym M.one-column; rows_agree = subst (λ (m : ℕ). row w k % m ≡ row w j % m) (min_comm (repeat p j) (repeat p k)) (sym M.rows_agree) }

-- what has no fault has no two messages that meet
pub not-met : {p w : List ℕ} → Stand p (messages p) w → (j k : ℕ) → j < messages p → k < messages p → (j ≡ k → ⊥) → Meets p w j k → ⊥
not-met {p} {w} S j k lj lk ne M =
    ⊎_elim
    (λ l. (fault-sound p w k (S.each k lk)).clear j l (is-meets p w j k M))
    (λ l. (fault-sound p w j (S.each j lj)).clear k (omega (arith, ne)) (is-meets p w k j (turned M)))
    (below_or j k)

-- nor two with a cell in common
pub not-shared : {p w : List ℕ} → Few p → Stand p (messages p) w → (i j k : ℕ) → j < messages p → k < messages p → (j ≡ k → ⊥)
    → column w j ≡ column w k → i % repeat p j ≡ row w j → i % repeat p k ≡ row w k → ⊥
not-shared {p} {w} F S i j k lj lk ne ec ej ek = not-met S j k lj lk ne (share (member F.formed lj) (member F.formed lk) w i ec ej ek)
