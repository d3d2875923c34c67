-- The shares of the bus time in which a load is added up: all of it, and the most that one event asks for and that all do.
use Rattle.std.specs.Prelude.{ℕ, ◌+◌, ◌*◌}
use Rattle.rules.specs.Problem.{frame}
use Rattle.response.specs.Events.{most_events}

abbrev pub whole : ℕ
whole = 10000000000

-- the longest frame at every unit; rounding adds less than a period, which is any word as it stands
abbrev pub most_shares : ℕ
most_shares = frame 8 * whole + 4294967296

abbrev pub most_load : ℕ
most_load = most_shares * most_events
