-- Where a problem file has the numbers of its header: the byte at which each begins. Number 4 names the first that is wrong by it.
use Rattle.std.specs.Prelude.{ℕ}

abbrev pub rows_byte : ℕ
rows_byte = 5

abbrev pub cycle_byte : ℕ
cycle_byte = 6

abbrev pub ref_len_byte : ℕ
ref_len_byte = 8

abbrev pub ref_id_byte : ℕ
ref_id_byte = 10

abbrev pub limit_byte : ℕ
limit_byte = 12

abbrev pub columns_byte : ℕ
columns_byte = 13

abbrev pub messages_byte : ℕ
messages_byte = 14

-- the header's last byte, which is 0
abbrev pub last_byte : ℕ
last_byte = 15
