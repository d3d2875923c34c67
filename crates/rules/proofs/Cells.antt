-- Two messages meet exactly where they have a cell of the matrix in common.
use Prim.Native.Nat.{ℕ, ◌+◌, ◌*◌, ◌<◌}
use mathlib.Core.Path.{refl, sym, ◌∙◌}
use mathlib.Core.List.{List}
use native.Mathlib.Omega.{arith}
use Rattle.rules.specs.Cells.{Here}
use Rattle.rules.specs.Parts.{Member}
use Rattle.rules.specs.Problem.{rows, repeat, column, row, Placed}
use Rattle.rules.specs.Tests.{common}
use Rattle.rules.proofs.Bounds.{repeat-is, repeat-rows}
use Rattle.rules.proofs.Digits.{rows_agree, rows-meet, Common}
use Rattle.rules.proofs.Exact.{common-divides}
use Rattle.rules.proofs.Meaning.{Meets}

-- messages j and k have one cell of the matrix: it stands in this row, and in k's column
pub record Both (p w : List ℕ) (j k : ℕ) : Type 0 where
  pub at_row : ℕ
  pub low : at_row < rows p
  pub first : Here p w j at_row (column w k)
  pub second : Here p w k at_row (column w k)

module _ {p w : List ℕ} {j k : ℕ} (mj : Member p j) (mk : Member p k) where
  pub cell-meets : {i c : ℕ} → Here p w j i c → Here p w k i c → Meets p w j k
  cell-meets h g =
      let d = common-divides p j k mj.timing.power mk.timing.power (repeat-is mj) (repeat-is mk) in
      record {
        one-column = h.same-column ∙ sym g.same-column;
        rows_agree = rows_agree (common p j k) (repeat p j) (repeat p k) (row w j) (row w k) h.turn g.turn d.0 d.1 (h.same_row ∙ sym g.same_row);
      }

  pub meets-cell : Placed p j (column w j) (row w j) → Placed p k (column w k) (row w k) → Meets p w j k → Both p w j k
  unfolding common
  meets-cell a b m =
      let e : Common (repeat p j) (repeat p k) (row w j) (row w k) = rows-meet _ _ _ _ a.row_below b.row_below m.rows_agree in
      record {
        at_row = row w j + e.n * repeat p j;
        low = e.low (rows p) (omega (arith, a.row_below, repeat-rows mj)) (omega (arith, b.row_below, repeat-rows mk));
        first = record { same-column = m.one-column; turn = e.n; same_row = refl };
        second = record { same-column = refl; turn = e.k; same_row = sym e.one-row };
      }
