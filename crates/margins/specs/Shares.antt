-- Shares of a whole, as hundredths of a per cent.
use Rattle.std.specs.Prelude.{ℕ, ◌+◌, ◌*◌, ◌≤◌, ◌<◌}
use Rattle.losses.specs.declared.BusTime.{BusTime}

-- all of it
abbrev pub all : ℕ
all = 10000

-- r hundredths of a per cent are the nearest to the share x / n, and of two as near the larger: r - 1/2 ≤ x · all / n < r + 1/2
pub record Nearest (x n r : ℕ) : Type 0 where
  pub least : 2 * r * n ≤ 2 * x * all + n
  pub most : 2 * x * all < 2 * r * n + n

-- a matrix cycle: its five figures together
abbrev pub whole : BusTime → ℕ
whole t = t.reference + t.used + t.in_window + t.empty + t.gaps

-- no part is more than two figures
abbrev pub most_part : ℕ
most_part = 2 * 4294967295
