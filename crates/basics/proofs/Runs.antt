-- Laws of lists that are put together piece by piece, and of a buffer that is filled so from the front.
use Prim.Native.Nat.{ℕ, zero, suc, ◌+◌, ◌*◌, ◌-◌, ◌<◌, ◌≤◌}
use mathlib.Core.Path.{◌≡◌, refl, sym, ap, ◌∙◌, subst}
use mathlib.Core.Logic.{⊎_elim}
use mathlib.Core.List.Memᴰ
use mathlib.Core.List.{List, [], ◌∷◌, ◌++◌, append-nil, append_assoc, Memᴰ}
use borrow.Rule.Slice.PartMut.{put_mid, mid_of, same_len_mid}
use native.Mathlib.Nat.{add-zero, add-suc, add-sub_cancel_left, mul-le-mul_left, mul-zero, mul-suc, eq-or-lt_of_le, le_of_suc-le-suc}
use native.Mathlib.Numerals.{add-one}
use native.Mathlib.Omega.{arith}
use lib.ListN.{length, get_or, set, take, drop, drop_of_length-le, length-append, length-drop, take-append-drop, get_or-append}
use lib.Seq.{drop-append_seam, sets, sets-eq, take_at, drop_at, drop-drop, length-take-le, drop-cons, set_at, take_all, take-add, get_or-take, get_or-drop}
use Rattle.basics.specs.Runs.{run, piece, tab, front, Turned}

-- ---- runs
module _ (g : ℕ → List ℕ) where
  pub run-next : (n : ℕ) → run (n + 1) g ≡ run n g ++ g n
  unfolding run
  run-next n = rw add-one

  module _ (k : ℕ) (each : (i : ℕ) → length (g i) ≡ k) where
    pub length_run : (n : ℕ) → length (run n g) ≡ k * n
    unfolding run
    length_run zero = sym (mul-zero k)
    length_run (suc n) = let a = length_run n in let b = each n in omega (arith, length-append (run n g) (g n), mul-suc k n)

    pub piece-run : (n i : ℕ) (t : List ℕ) → i < n → piece k i (run n g ++ t) ≡ g i
    unfolding run
    piece-run zero i t l = absurd (omega arith)
    piece-run (suc n) i t l =
        rw append_assoc
        (⊎_elim
        (λ q. subst (λ (x : ℕ). piece k x (run n g ++ (g n ++ t)) ≡ g x) (sym q) (rw (drop_at (run n g) (g n ++ t) (k * n) (length_run n), take_at (g n) t k (each n))))
        (λ m. piece-run n i (g n ++ t) m)
        (eq-or-lt_of_le (le_of_suc-le-suc l)))

    -- the next piece, stored by way of a part
    pub run_more : (j : ℕ) (d xs ys : List ℕ) → xs ≡ run j g ++ drop (k * j) d → ys ≡ g j → put_mid (k * j) (k * j + k - k * j) xs ys ≡ run (j + 1) g ++ drop (k * (j + 1)) d
    run_more j d xs ys p q =
        let l = length_run j in
        let kept = take_at (run j g) (drop (k * j) d) (k * j) l in
        let rest = drop_at (run j g) (drop (k * j) d) (k * j) l in
        rw (p, q, add-sub_cancel_left (k * j) k, kept, rest, drop-drop k (k * j) d, run-next, append_assoc, add-one, mul-suc)

-- parted behind the first m
pub run-split : {A : Type 0} (g : ℕ → List A) (m k : ℕ) → run (m + k) g ≡ run m g ++ run k (λ i. g (m + i))
unfolding run
run-split g m zero = rw (add-zero, append-nil)
run-split g m (suc k) = rw (add-suc, run-split g m k, append_assoc)

-- piece i of n begins where the pieces before it end
module _ (g : ℕ → List ℕ) (n i : ℕ) (l : i < n) where
  pub run-around : run n g ≡ run i g ++ g i ++ run (n - suc i) (λ k. g (suc i + k))
  unfolding run
  run-around = let e : n ≡ suc i + (n - suc i) = omega arith in ap (λ (k : ℕ). run k g) e ∙ run-split g (suc i) (n - suc i)

  pub run_inside : length (run i g) + length (g i) ≤ length (run n g)
  run_inside = rw (run-around, length-append, length-append) (omega arith)

  pub run_at : (k : ℕ) → k < length (g i) → get_or (run n g) (length (run i g) + k) 0 ≡ get_or (g i) k 0
  run_at k h =
      let rest = run (n - suc i) (λ k. g (suc i + k)) in
      ap (λ (t : List ℕ). get_or t (length (run i g) + k) 0) run-around
      ∙ get_or-append (run i g ++ g i) rest 0 (length (run i g) + k) (rw length-append (omega arith))
      ∙ sym (get_or-drop (length (run i g)) (run i g ++ g i) k 0)
      ∙ ap (λ (t : List ℕ). get_or t k 0) (drop-append_seam (run i g) (g i))

pub run-same : (g h : ℕ → List ℕ) (n : ℕ) → ((i : ℕ) → i < n → g i ≡ h i) → run n g ≡ run n h
unfolding run
run-same g h zero e = refl
run-same g h (suc n) e = rw (run-same g h n (λ i l. e i (omega arith)), e n (omega arith))

pub run-pieces : (k n : ℕ) (l : List ℕ) → run n (λ i. piece k i l) ≡ take (k * n) l
unfolding run
run-pieces k zero l = rw mul-zero
run-pieces k (suc n) l = rw (run-pieces k n l, mul-suc, take-add)

-- what stands in a run stands in one of its lists
pub record OfRun {A : Type 0} (x : A) (n : ℕ) (g : ℕ → List A) : Type 0 where
  pub at : ℕ
  pub below : at < n
  pub member : Memᴰ x (g at)

module _ {A : Type 0} (g : ℕ → List A) where
  pub in-run : (n i : ℕ) {x : A} → i < n → Memᴰ x (g i) → Memᴰ x (run n g)
  unfolding run
  in-run zero i l m = absurd (omega arith)
  in-run (suc n) i {x} l m =
      ⊎_elim
      (λ e. Memᴰ.append_right (run n g) (subst (λ (k : ℕ). Memᴰ x (g k)) e m))
      (λ k. Memᴰ.append_left (g n) (in-run n i k m))
      (eq-or-lt_of_le (le_of_suc-le-suc l))

  pub of-run : (n : ℕ) (x : A) → Memᴰ x (run n g) → OfRun x n g
  unfolding run
  of-run zero x m = absurd (Memᴰ.not-nil m)
  of-run (suc n) x m =
      ⊎_elim
      (λ k. let h = of-run n x k in record { at = h.at; below = omega (arith, h.below); member = h.member })
      (λ k. record { at = n; below = omega arith; member = k })
      (Memᴰ.append_cases (run n g) m)

-- ---- pieces
module _ (k i n : ℕ) (l : List ℕ) where
  pub get_or-piece : (c : ℕ) → c < k → get_or (piece k i (drop n l)) c 0 ≡ get_or l (n + (k * i + c)) 0
  get_or-piece c h = get_or-take k (drop (k * i) (drop n l)) c 0 h ∙ get_or-drop (k * i) (drop n l) c 0 ∙ get_or-drop n l (k * i + c) 0

  pub length-piece : (m : ℕ) → n + k * m ≤ length l → i < m → length (piece k i (drop n l)) ≡ k
  length-piece m h lt =
      let q : k * (i + 1) ≤ k * m = mul-le-mul_left k (omega arith) in
      let e : k * (i + 1) ≡ k * i + k = rw (add-one, mul-suc) in
      length-take-le k (drop (k * i) (drop n l)) (rw (length-drop, length-drop) (omega arith))

-- a piece that is lent as the part from k * j to k * j + k
pub part-piece : (k j : ℕ) (l : List ℕ) → take (k * j + k - k * j) (drop (k * j) l) ≡ piece k j l
part-piece k j l = rw (add-sub_cancel_left (k * j) k)

pub length_part : (k j n : ℕ) (l : List ℕ) → k * n ≤ length l → j < n → length (take (k * j + k - k * j) (drop (k * j) l)) ≡ k
length_part k j n l h lt =
    let m : k * (j + 1) ≤ k * n = mul-le-mul_left k (omega arith) in
    let e : k * (j + 1) ≡ k * j + k = rw (add-one, mul-suc) in
    rw (add-sub_cancel_left (k * j) k) (length-take-le k (drop (k * j) l) (rw length-drop (omega arith)))

-- ---- pieces turned one by one, each lent as a part and stored by way of a part
module _ {F : List ℕ → List ℕ} {a b : ℕ} {l d : List ℕ} where
  pub turned_none : Turned F a b l d 0 d
  unfolding run
  turned_none = record { long = refl; is = rw mul-zero }

  pub turned_more : ((r : List ℕ) → length (F r) ≡ b) → (j : ℕ) {x ys : List ℕ} → Turned F a b l d j x → ys ≡ F (take (a * j + a - a * j) (drop (a * j) l))
      → length ys ≡ length (mid_of (b * j) (b * j + b - b * j) x) → Turned F a b l d (j + 1) (put_mid (b * j) (b * j + b - b * j) x ys)
  turned_more each j {x} {ys} t e same = record {
    long = same_len_mid (b * j) (b * j + b - b * j) x ys same ∙ t.long;
    is = run_more (λ i. F (piece a i l)) b (λ i. each _) j d x ys t.is (e ∙ ap F (part-piece a j l));
  }

  -- the part that is read next has a, and the part that is written b
  pub turned-parts : (j n : ℕ) {x : List ℕ} → Turned F a b l d j x → j < n → a * n ≤ length l → b * n ≤ length d
      → (length (take (a * j + a - a * j) (drop (a * j) l)) ≡ a) × (length (take (b * j + b - b * j) (drop (b * j) x)) ≡ b)
  turned-parts j n {x} t lt la lb = (length_part a j n l la lt, length_part b j n x (omega (arith, t.long, lb)) lt)

  pub turned-all : {j n : ℕ} {x : List ℕ} → Turned F a b l d j x → j ≡ n → Turned F a b l d n x
  turned-all t e = rw (← e) t

-- ---- there and back: pieces of a, turned into pieces of a' by F and back by F'
module _
    (s : List ℕ) (n a a' K : ℕ) (F F' : List ℕ → List ℕ)
    (l_f : (r : List ℕ) → length (F r) ≡ a')
    (b_f : (i : ℕ) → i < K → F' (F (piece a i (drop n s))) ≡ piece a i (drop n s))
  where
    run-back : (t : List ℕ) → run K (λ i. F' (piece a' i (run K (λ i. F (piece a i (drop n s))) ++ t))) ≡ take (a * K) (drop n s)
    run-back t =
        let f : ℕ → List ℕ = λ i. F (piece a i (drop n s)) in
        run-same _ _ K (λ i l. ap F' (piece-run f a' (λ i. l_f _) K i t l) ∙ b_f i l) ∙ run-pieces a K (drop n s)

-- a head, K pieces of a and M of b
module _
    (s H : List ℕ) (n a b n' a' b' K M : ℕ) (F G F' G' : List ℕ → List ℕ)
    (l_h : length H ≡ n') (l_f : (r : List ℕ) → length (F r) ≡ a') (l_g : (r : List ℕ) → length (G r) ≡ b')
    (whole : length s ≡ n + a * K + b * M)
    (b_f : (i : ℕ) → i < K → F' (F (piece a i (drop n s))) ≡ piece a i (drop n s))
    (b_g : (j : ℕ) → j < M → G' (G (piece b j (drop (n + a * K) s))) ≡ piece b j (drop (n + a * K) s))
    (X : List ℕ)
    (is_x : X ≡ H ++ run K (λ i. F (piece a i (drop n s))) ++ run M (λ j. G (piece b j (drop (n + a * K) s))))
  where
    pub there_and_back : take n s ++ run K (λ i. F' (piece a' i (drop n' X))) ++ run M (λ j. G' (piece b' j (drop (n' + a' * K) X))) ≡ s
    there_and_back =
        let f : ℕ → List ℕ = λ i. F (piece a i (drop n s)) in
        let g : ℕ → List ℕ = λ j. G (piece b j (drop (n + a * K) s)) in
        let l_c : length (run K f) ≡ a' * K = length_run f a' (λ i. l_f _) K in
        let d1 : drop n' X ≡ run K f ++ run M g = rw (is_x, append_assoc, drop_at H (run K f ++ run M g) n' l_h) in
        let d2 : drop (n' + a' * K) X ≡ run M g ++ [] =
        rw (is_x, append-nil) (drop_at (H ++ run K f) (run M g) (n' + a' * K) (length-append H (run K f) ∙ rw (l_h, l_c))) in
        let e1 = run-back s n a a' K F F' l_f b_f (run M g) in
        let e2 = run-back s (n + a * K) b b' M G G' l_g b_g [] in
        rw (d1, d2, e1, e2, ← take-add n (a * K) s, ← take-add (n + a * K) (b * M) s) (take_all (n + a * K + b * M) s (omega arith))

-- a head and K pieces of a, before an end that stays
module _
    (s H : List ℕ) (n a b K : ℕ) (F G : List ℕ → List ℕ)
    (l_h : length H ≡ n) (l_f : (r : List ℕ) → length (F r) ≡ b)
    (is_h : H ≡ take n s)
    (b_f : (i : ℕ) → i < K → G (F (piece a i (drop n s))) ≡ piece a i (drop n s))
    (X : List ℕ)
    (is_x : X ≡ H ++ run K (λ i. F (piece a i (drop n s))) ++ drop (n + a * K) s)
  where
    pub turned-back : H ++ run K (λ i. G (piece b i (drop n X))) ++ drop (n + b * K) X ≡ s
    turned-back =
        let f : ℕ → List ℕ = λ i. F (piece a i (drop n s)) in
        let t : List ℕ = drop (n + a * K) s in
        let l_c : length (run K f) ≡ b * K = length_run f b (λ i. l_f _) K in
        let d1 : drop n X ≡ run K f ++ t = rw (is_x, append_assoc, drop_at H (run K f ++ t) n l_h) in
        let d2 : drop (n + b * K) X ≡ t = rw is_x (drop_at (H ++ run K f) t (n + b * K) (length-append H (run K f) ∙ rw (l_h, l_c))) in
        rw (d1, d2, run-back s n a b K F G l_f b_f t, is_h, ← take-add n (a * K) s) (take-append-drop (n + a * K) s)

-- ---- a buffer that is filled from the front
-- word by word
pub store-next : (p d : List ℕ) (i v : ℕ) → length p ≡ i → i < length d → set (p ++ drop i d) i v ≡ (p ++ (v ∷ [])) ++ drop (i + 1) d
store-next p d i v e l = rw (drop-cons d i 0 l, set_at p (get_or d i 0) (drop (suc i) d) v i e, add-one, append_assoc)

pub sets-all : (vs w : List ℕ) → length w ≡ length vs → sets w 0 vs ≡ vs
sets-all vs w h = sets-eq vs w 0 (omega arith) ∙ ap (λ (l : List ℕ). vs ++ l) (drop_of_length-le w {i = 0 + length vs} (omega arith)) ∙ append-nil vs

-- all but the first, and then the first
pub sets_behind : (vs w : List ℕ) → length w ≡ suc (length vs) → sets w 1 vs ≡ get_or w 0 0 ∷ vs
sets_behind vs [] h = absurd (omega arith)
sets_behind vs (x ∷ l) h =
    sets-eq vs (x ∷ l) 1 (omega arith)
    ∙ ap (λ (t : List ℕ). x ∷ (vs ++ t)) (drop_of_length-le (x ∷ l) {i = 1 + length vs} (omega arith))
    ∙ ap (λ (t : List ℕ). x ∷ t) (append-nil vs)

-- and to its end
pub filled : (d p l : List ℕ) (n : ℕ) → l ≡ p ++ drop n d → length d ≡ n → l ≡ p
filled d p l n e h = e ∙ rw (drop_of_length-le d {i = n} (omega arith), append-nil)

-- by way of a part that reaches to the buffer's end
pub tail-part : (n : ℕ) (l : List ℕ) → take (length l - n) (drop n l) ≡ drop n l
tail-part n l = take_all (length l - n) (drop n l) (rw length-drop (omega arith))

pub put_rest : (p e d xs ys : List ℕ) (n : ℕ) → xs ≡ p ++ drop n d → length p ≡ n → ys ≡ e → put_mid n (length xs - n) xs ys ≡ p ++ e
put_rest p e d xs ys n q l r =
    let h : take n xs ≡ p = rw (q, take_at p (drop n d) n l) in
    let z : drop (length xs - n) (drop n xs) ≡ [] = drop_of_length-le (drop n xs) {i = length xs - n} (rw length-drop (omega arith)) in
    rw (r, z, h, append-nil)

pub put-tail : (p e d xs ys : List ℕ) (n m : ℕ) → xs ≡ p ++ drop n d → length p ≡ n → ys ≡ e ++ drop m (take (length xs - n) (drop n xs))
    → put_mid n (length xs - n) xs ys ≡ (p ++ e) ++ drop (n + m) d
put-tail p e d xs ys n m q l r =
    let t : drop n xs ≡ drop n d = rw (q, drop_at p (drop n d) n l) in
    put_rest p (e ++ drop (n + m) d) d xs ys n q l (r ∙ rw (tail-part n xs, t, drop-drop m n d)) ∙ sym (append_assoc p e (drop (n + m) d))

-- ---- a list by its elements
pub length_front : (n : ℕ) (l : List ℕ) → length (front n l) ≡ n
length_front n l = length-tab (λ i. get_or l i 0) n
  where
    length-tab : (g : ℕ → ℕ) (n : ℕ) → length (tab g n) ≡ n
    length-tab g zero = refl
    length-tab g (suc n) = ap suc (length-tab (λ i. g (suc i)) n)

pub listed-take : (n : ℕ) (l : List ℕ) → n ≤ length l → front n l ≡ take n l
listed-take zero l h = refl
listed-take (suc n) [] h = absurd (omega arith)
listed-take (suc n) (x ∷ l) h = ap (λ (t : List ℕ). x ∷ t) (listed-take n l (omega arith))

pub listed : (n : ℕ) (l : List ℕ) → length l ≡ n → front n l ≡ l
listed n l e = listed-take n l (omega arith) ∙ take_all n l (omega arith)

-- every element is below b
pub record Small (b : ℕ) (l : List ℕ) : Type 0 where
  pub each : (i : ℕ) → get_or l i 0 < b

take-each : (b k : ℕ) (l : List ℕ) → 0 < b → ((i : ℕ) → get_or l i 0 < b) → (i : ℕ) → get_or (take k l) i 0 < b
take-each b zero l z h i = z
take-each b (suc k) [] z h i = z
take-each b (suc k) (x ∷ l) z h zero = h zero
take-each b (suc k) (x ∷ l) z h (suc i) = take-each b k l z (λ j. h (suc j)) i

pub small-drop : (b n : ℕ) (l : List ℕ) → Small b l → Small b (drop n l)
small-drop b n l h = record { each = λ i. rw get_or-drop (h.each _) }

pub small-piece : (b k i n : ℕ) (l : List ℕ) → 0 < b → Small b l → Small b (piece k i (drop n l))
small-piece b k i n l z h =
    record { each = take-each b k (drop (k * i) (drop n l)) z (small-drop b (k * i) (drop n l) (small-drop b n l h)).each }
