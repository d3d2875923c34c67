-- Numbers as bytes and back.
use Prim.Native.Nat.{ℕ, ◌+◌, ◌*◌, ◌<◌}
use mathlib.Core.Path.{◌≡◌}
use mathlib.Core.List.{List}
use native.Mathlib.Omega.{arith}
use lib.ListN.{get_or}
use Rattle.basics.proofs.Runs.{Small}
use Rattle.problem.specs.Bytes.{two, four, low, high, third, top}

-- ---- a number that fits its bytes comes back
pub low_small : (x : ℕ) → x < 256 → low x ≡ x
low_small x h = omega arith

pub two_back : (x : ℕ) → x < 65536 → high x * 256 + low x ≡ x
two_back x h = omega arith

pub four-back : (x : ℕ) → x < 4294967296 → (top x * 256 + third x) * 65536 + (high x * 256 + low x) ≡ x
four-back x h = omega arith

-- ---- and so do the bytes of a list
module _ (l : List ℕ) (s : Small 256 l) (i : ℕ) where
  pub high-two : high (two l i) ≡ get_or l i 0
  high-two = let a = s.each i in let b = s.each (i + 1) in omega arith

  pub low-two : low (two l i) ≡ get_or l (i + 1) 0
  low-two = let a = s.each i in let b = s.each (i + 1) in omega arith

  pub four-parts : (top (four l i) ≡ get_or l i 0) × (third (four l i) ≡ get_or l (i + 1) 0) × (high (four l i) ≡ get_or l (i + 2) 0) × (low (four l i) ≡ get_or l (i + 2 + 1) 0)
  four-parts =
      let a = s.each i in
      let b = s.each (i + 1) in
      let d = s.each (i + 2) in
      let e = s.each (i + 2 + 1) in
      (omega arith, omega arith, omega arith, omega arith)
