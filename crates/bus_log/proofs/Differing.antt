-- Where a log differs first from the words that are due, or that it does not.
use Rattle.std.proofs.Common.{ℕ, zero, suc, ◌+◌, ◌*◌, ◌/◌, ◌%◌, ◌<◌, ◌≤◌, ◌≡◌, sym, ap, ap₂, subst, ◌∙◌, List, [], ◌∷◌, ◌++◌, add-one, arith, length, get_or, take, drop, length-append, take-append-drop, drop_of_length-le, drop-cons, take_all, length-take-le, get_or-take, ext_get_or}
use native.Mathlib.Decide.{dec_lt}
use lib.ListN.{get_or-append}
use lib.Seq.{take-append-le}
use Rattle.bus_log.specs.declared.Difference.{Difference}
use Rattle.bus_log.specs.Against.{pair_at, nothing, Differing}
use Rattle.bus_log.specs.Parts.{Agreed, Agreeing}

-- the first s words of the log are those of x
pub record Same (x log : List ℕ) (s : ℕ) : Type 0 where
  pub inside : s ≤ length x
  pub in-log : s ≤ length log
  pub each : (k : ℕ) → k < s → get_or log k 0 ≡ get_or x k 0

-- a pair that is there
pub pair_is : (l : List ℕ) (i : ℕ) → 2 * i + 1 < length l → pair_at l i ≡ get_or l (2 * i) 0 ∷ get_or l (2 * i + 1) 0 ∷ []
pair_is l i h = rw (drop-cons l (2 * i) 0 (omega arith), drop-cons l (suc (2 * i)) 0 (omega arith), add-one)

module _ {x log : List ℕ} where
  pub same-take : {s : ℕ} → Same x log s → take s log ≡ take s x
  same-take {s} h =
      let here = length-take-le s log h.in-log in
      let there = length-take-le s x h.inside in
      ext_get_or 0 (take s log) (take s x) (here ∙ sym there) (λ i l. get_or-take s log i 0 (omega arith) ∙ h.each i (omega arith) ∙ sym (get_or-take s x i 0 (omega arith)))

  -- the log is x, or begins with it
  pub same-all : {n : ℕ} → n ≡ length x → Same x log n → log ≡ x ++ drop n log
  same-all {n} e h = sym (take-append-drop n log) ∙ ap (◌++ drop n log) (same-take h ∙ take_all n x (omega arith))

  pub same-clean : Same x log (length x) → length log ≤ length x → log ≡ x
  same-clean h l = sym (take_all (length x) log l) ∙ same-take h ∙ take_all (length x) x (omega arith)

  -- the pair behind s words differs
  pub differing-at : {s : ℕ} {d : Difference} → Same x log s → 2 * d.index ≡ s → s + 1 < length x → length log % 2 ≡ 0
      → d.time ≡ get_or x s 0 → d.identifier ≡ get_or x (s + 1) 0
      → (s + 1 < length log → get_or log s 0 ≡ get_or x s 0 → get_or log (s + 1) 0 ≡ get_or x (s + 1) 0 → ⊥) → Differing x log d
  differing-at {s} {d} h ei lx even et en apart =
      let due : pair_at x d.index ≡ get_or x s 0 ∷ get_or x (s + 1) 0 ∷ [] = pair_is x d.index (omega arith) ∙ rw ei in
      record {
        agreed = rw ei (same-take h);
        unlike = λ e. elim (dec_lt s (length log)) [
          | yes l ↦
              (let here : pair_at log d.index ≡ get_or log s 0 ∷ get_or log (s + 1) 0 ∷ [] = pair_is log d.index (omega arith) ∙ rw ei in
              let there = sym here ∙ e ∙ due in
              apart (omega arith) (ap (λ (t : List ℕ). get_or t 0 0) there) (ap (λ (t : List ℕ). get_or t 1 0) there))
          | no l ↦
              (let ended : pair_at log d.index ≡ [] = rw (drop_of_length-le log {i = 2 * d.index} (omega arith)) in
              let z : ◌≡◌ {A = ℕ} 0 2 = ap length (sym ended ∙ e ∙ due) in omega arith)
        ];
        due = rw (due, et, en);
      }

  -- x has ended and the log goes on
  pub differing-behind : {d : Difference} → Same x log (length x) → 2 * d.index ≡ length x → length x < length log → length log % 2 ≡ 0
      → d.time ≡ nothing → d.identifier ≡ nothing → Differing x log d
  differing-behind {d} h ei l even et en =
      let none : pair_at x d.index ≡ [] = rw (drop_of_length-le x {i = 2 * d.index} (omega arith)) in
      record {
        agreed = rw ei (same-take h);
        unlike = λ e. let z : ◌≡◌ {A = ℕ} 2 0 = ap length (sym (pair_is log d.index (omega arith)) ∙ e ∙ none) in omega arith;
        due = rw (none, et, en);
      }

-- what differs within x differs within what begins with x
pub differing-longer : {x log : List ℕ} (z : List ℕ) {d : Difference} → 2 * d.index + 1 < length x → Differing x log d → Differing (x ++ z) log d
differing-longer {x} z {d} l h =
    let front : take (2 * d.index) (x ++ z) ≡ take (2 * d.index) x = take-append-le (2 * d.index) x z (omega arith) in
    let same : pair_at (x ++ z) d.index ≡ pair_at x d.index =
    pair_is (x ++ z) d.index (rw length-append (omega arith))
    ∙ ap₂ (λ (a b : ℕ). a ∷ b ∷ []) (get_or-append x z 0 (2 * d.index) (omega arith)) (get_or-append x z 0 (2 * d.index + 1) l)
    ∙ sym (pair_is x d.index l) in
    record { agreed = rw front h.agreed; unlike = rw same h.unlike; due = rw same h.due }

-- ---- further along
-- the pair of y at word k is, `later` before, the one of x from `at` on
pub record Tells (x y : List ℕ) (at later k : ℕ) : Type 0 where
  pub time : get_or x (at + k) 0 ≡ get_or y k 0 + later
  pub identifier : get_or x (at + k + 1) 0 ≡ get_or y (k + 1) 0

-- y is compared with the part of the log from `at` on
module _ (log : List ℕ) (at : ℕ) {part : List ℕ} (reads : (k : ℕ) → k < length part → get_or part k 0 ≡ get_or log (at + k) 0) (fits : at + length part ≤ length log) where
  -- what agrees with y is x, where y tells x; that may be known only as far as the log is x
  pub same-on : {x y : List ℕ} {later r : ℕ} → Same x log at → Agreed y later part r → at + r ≤ length x
      → ((m : ℕ) → 2 * m < r → Same x log (at + 2 * m) → Tells x y at later (2 * m)) → Same x log (at + r)
  same-on {x} {y} {later} {r} h a lx tells = let even = a.whole in let e : 2 * (r / 2) ≡ r = omega arith in subst (λ (k : ℕ). Same x log (at + k)) e (go (r / 2) (omega arith))
    where
      step : (m : ℕ) → 2 * m < r → Same x log (at + 2 * m) → Same x log (at + 2 * suc m)
      step m l s =
          let even = a.whole in
          let most = a.in-log in
          let f = a.follows m l in
          let t = tells m l s in
          let time : get_or log (at + 2 * m) 0 ≡ get_or x (at + 2 * m) 0 = sym (reads (2 * m) (omega arith)) ∙ f.time ∙ sym t.time in
          let name : get_or log (at + 2 * m + 1) 0 ≡ get_or x (at + 2 * m + 1) 0 =
          ap (λ (k : ℕ). get_or log k 0) (omega arith) ∙ sym (reads (2 * m + 1) (omega arith)) ∙ f.identifier ∙ sym t.identifier in
          record {
            inside = omega arith;
            in-log = omega arith;
            each = λ k lk. elim (dec_lt k (at + 2 * m)) [
              | yes q ↦ s.each k q
              | no q ↦ elim (dec_lt k (at + 2 * m + 1)) [
                | yes u ↦ (let e : at + 2 * m ≡ k = omega arith in subst (λ (i : ℕ). get_or log i 0 ≡ get_or x i 0) e time)
                | no u ↦ (let e : at + 2 * m + 1 ≡ k = omega arith in subst (λ (i : ℕ). get_or log i 0 ≡ get_or x i 0) e name)
              ]
            ];
          }

      go : (m : ℕ) → 2 * m ≤ r → Same x log (at + 2 * m)
      go zero l = let e : at ≡ at + 2 * 0 = omega arith in subst (Same x log) e h
      go (suc m) l = step m (omega arith) (go m (omega arith))

  -- where the comparing stops, the log differs
  pub apart-at : {x y : List ℕ} {later r : ℕ} → length part % 2 ≡ 0 → Agreeing y later part r → r < length y → r < length part → Tells x y at later r
      → get_or log (at + r) 0 ≡ get_or x (at + r) 0 → get_or log (at + r + 1) 0 ≡ get_or x (at + r + 1) 0 → ⊥
  apart-at {r = r} even a ly lp t et en =
      let whole = a.agreed.whole in
      a.stops ly lp record {
        time = reads r lp ∙ et ∙ t.time;
        identifier = reads (r + 1) (omega arith) ∙ ap (λ (k : ℕ). get_or log k 0) (omega arith) ∙ en ∙ t.identifier;
      }
