-- How large the numbers of the picture can be, in tenths of a pixel: the bounds of its scale and of the places where things stand.
use Rattle.std.specs.Prelude.{ℕ}

-- no time of a cycle is longer
abbrev pub longest : ℕ
longest = 65535

-- the bus time is drawn no wider, so that no place lies farther to the right and no bar lower
abbrev pub widest : ℕ
widest = 22400

abbrev pub farthest : ℕ
farthest = 1600000000

abbrev pub lowest : ℕ
lowest = 1200000000000

-- no label has more characters
abbrev pub most_characters : ℕ
most_characters = 24
