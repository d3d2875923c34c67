-- How many turns a search takes: each turn adds at least the shortest frame, and none begins above the longest busy period. Both loops have the turns that are left as
-- their measure, so each ends after at most 305,041.
use Prim.Native.Nat.{ℕ, ◌+◌, ◌-◌, ◌/◌, ◌<◌, ◌≤◌}
use native.Mathlib.Omega.{arith}
use Rattle.response.specs.Times.{longest_busy}
use Rattle.response.specs.Parts.{shortest_frame}

-- the turns that are left to a search that has come to w
abbrev pub left : ℕ → ℕ
left w = (longest_busy + shortest_frame - w) / shortest_frame

pub left-most : (w : ℕ) → left w ≤ 305041
left-most w = omega arith

-- a turn that adds a frame leaves fewer, and so does the first one, from 1
pub left-falls : {v w : ℕ} → w ≤ longest_busy → w + shortest_frame ≤ v → left v < left w
left-falls l h = omega arith

pub left-first : {v : ℕ} → shortest_frame ≤ v → left v < left 1
left-first h = omega arith
