-- Placements put into a copy of the kept ones, slot by slot: no slot is that of a kept message, nor that of another slot.
use Rattle.std.proofs.Common.{ℕ, ◌+◌, ◌*◌, ◌<◌, ◌≤◌, ◌≡◌, ap, ◌∙◌, true, List, arith, below_more, length, get_or}
use Rattle.basics.proofs.Tests.{not-both}
use Rattle.rules.specs.Problem.{column, row, most_messages}
use Rattle.kept.specs.Kept.{keeps, put}
use Rattle.kept.proofs.Putting.{other-column, other_row, own-column, own_row}
use Rattle.rest.specs.Free.{Free}
use Rattle.rest.specs.Joined.{Joined}

-- a slot more
pub joined-more : {k m v w : List ℕ} {n s h : ℕ} → Free k h m n → s < n → h ≤ most_messages → length w ≡ 2 * most_messages → Joined k m s v h w
    → Joined k m (s + 1) v h (put w (get_or m s 0) (column v s) (row v s))
joined-more {k} {m} {v} {w} {n} {s} {h} F l few long J = record {
  kept-columns = λ i g f. other-column w j c r i (not-kept i f) ∙ J.kept-columns i g f;
  kept-rows = λ i g f. other_row w j c r i (not-kept i f) ∙ J.kept-rows i g f;
  free-columns = below_more _ s (λ t g. other-column w j c r (get_or m t 0) (unlike t g) ∙ J.free-columns t g) (own-column w j c r room);
  free-rows = below_more _ s (λ t g. other_row w j c r (get_or m t 0) (unlike t g) ∙ J.free-rows t g) (own_row w j c r room);
}
  where
    j : ℕ
    j = get_or m s 0

    c : ℕ
    c = column v s

    r : ℕ
    r = row v s

    room : 2 * get_or m s 0 + 1 < length w
    room = omega (arith, F.below s l)

    not-kept : (i : ℕ) → keeps k i ≡ true → ¬ (i ≡ get_or m s 0)
    not-kept i f q = not-both f (ap (keeps k) q ∙ F.not-kept s l)

    unlike : (t : ℕ) → t < s → ¬ (get_or m t 0 ≡ get_or m s 0)
    unlike t g q = omega (arith, q, F.rising t s g l)
