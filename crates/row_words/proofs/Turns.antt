-- A row is that of one turn only, of the rows r, r + step, ..
use Rattle.std.proofs.Common.{ℕ, suc, ◌+◌, ◌*◌, ◌<◌, ◌≤◌, ◌≡◌, arith, lt_of_mul-lt-mul_right}

pub one-turn : (r step turn k : ℕ) {i : ℕ} → i ≡ r + turn * step → i ≤ r + k * step → r + k * step < i + step → k ≡ turn
one-turn r step turn k e h l =
    omega (arith, lt_of_mul-lt-mul_right step {m = k} {n = suc turn} (omega arith), lt_of_mul-lt-mul_right step {m = turn} {n = suc k} (omega arith))
