-- The buffer's length is given by a law: to count it would take the list apart.
use Prim.Native.Nat.{ℕ}
use mathlib.Core.Path.{sym}
use lib.ListN.{length-replicate}
use Rattle.vectors.proofs.run_file.Goals as goal

pub slice_bounds-run_cases-end : goal.slice_bounds-run_cases-end
slice_bounds-run_cases-end g c = sym (length-replicate {A = ℕ} _ 0)
