-- The places that the messages placed leave the others, which proposals fit into them, and that there are none where these find no room.
use Prim.Native.Nat.{ℕ, ◌+◌, ◌*◌, ◌<◌, ◌≤◌}
use mathlib.Core.Path.{◌≡◌, refl, sym, subst, ◌∙◌}
use mathlib.Core.Bool.{Bool, true, false}
use mathlib.Core.List.{List}
use mathlib.Core.Logic.{⊎_elim}
use native.Mathlib.Nat.{eq-or-lt_of_le}
use native.Mathlib.Omega.{arith}
use borrow.Author.Tests.{eqb-true, eqb-false}
use lib.Dec.{eqb}
use lib.ListN.{length, get_or, replicate, get_or-replicate}
use Rattle.basics.specs.Bits.{bit, Has, Joined}
use Rattle.basics.proofs.Bits.{has-none}
use Rattle.rules.specs.Problem.{most_rows, messages, repeat, Gives, column, row, WellFormed}
use Rattle.rules.specs.Tests.{Stand}
use Rattle.rules.proofs.Meaning.{stands}
use Rattle.places.specs.Places.{table_at, Few, Allows, Clash, Beside}
use Rattle.lookahead.specs.Probe.{Cautious}
use Rattle.places.proofs.Meets.{fault-own, low_column, clash-meets, not-met}
use Rattle.kept.specs.Kept.{put}
use Rattle.planner.specs.Search.{plan_words, Leaves, Begun, From, Fitting, Full, Suiting, Best, Nowhere, Searched}
use Rattle.planner.proofs.Gone.{put-stands, Gone, gone-next, found, best-same, nowhere-same}
use Rattle.planner.proofs.Order.{put_keeps, put-column, put-row, put-agree}
use Rattle.std.specs.Prelude.{Option, None, Some}

-- ---- the messages from k on
pub from-none : (k : ℕ) → From k k 0
from-none k = record { late = λ j h. absurd (has-none j h); all = λ j h l. absurd (omega arith) }

pub from_more : {k n l l' : ℕ} → k ≤ n → From k n l → Joined l n l' → From k (n + 1) l'
from_more {k} {n} h F J = record {
  late = λ j g. ⊎_elim (λ e. rw e h) (λ q. F.late j q) (J.only j g);
  all = λ j g l. ⊎_elim (λ e. rw e J.here) (λ q. J.keeps j (F.all j g q)) (eq-or-lt_of_le {n = j} {m = n} (omega arith));
}

pub from_all : {k n m l : ℕ} → m ≤ n → From k n l → From k m l
from_all h F = record { late = F.late; all = λ j g l. F.all j g (omega arith) }

-- ---- the places that are left
module _ (p v : List ℕ) (k c r : ℕ) (room : Gives v k) where
  -- the earlier messages stand as before
  was : (i : ℕ) → i < k → {j d s : ℕ} → Clash p i (column (put v k c r) i) (row (put v k c r) i) j d s → Clash p i (column v i) (row v i) j d s
  was i h K = rw ((put_keeps v k c r).columns-same i h, (put_keeps v k c r).rows_same i h) K

  pub leaves-more : {w t t' : List ℕ} {l : ℕ} → w ≡ put v k c r → From (k + 1) (messages p) l → Leaves p k v t → Beside p l k c r t t' → Leaves p (k + 1) w t'
  leaves-more e L T B = rw e record {
    own = λ j s d h lj ls x. T.own j s d (omega arith) lj ls ((B.each j s lj (L.all j h lj) ls).only d x);
    unmet = λ j s d h lj ls x i g K.
        let left = B.each j s lj (L.all j h lj) ls in
        ⊎_elim
        (λ q.
        let K' = subst (λ (m : ℕ). Clash p m (column (put v k c r) m) (row (put v k c r) m) j d s) q K in
        left.unmet d x (rw (put-column v k c r room, put-row v k c r room) at K'))
        (λ q. T.unmet j s d (omega arith) lj ls (left.only d x) i q (was i q K))
        (eq-or-lt_of_le {n = i} {m = k} (omega arith));
  }

-- ---- what fits, with message k at column c and base row r, before it is placed there and then
module _ {p t t' : List ℕ} {k c r l : ℕ} (F : Few p) (lk : k < messages p) (L : From (k + 1) (messages p) l) (B : Beside p l k c r t t')
    {w : List ℕ} (ec : column w k ≡ c) (er : row w k ≡ r) where
  pub fitting-then : Fitting p t k w → Fitting p t' (k + 1) w
  fitting-then W = record {
    stands = W.stands;
    inside = λ j h lj.
        let at = stands W.stands j lj in
        (B.each j (row w j) lj (L.all j h lj) at.row_below).keeps (column w j) (low_column F at) (W.inside j (omega arith) lj)
        (λ K. not-met W.stands k j lk lj (λ q. omega arith) (clash-meets ec er refl refl K));
  }

  pub fitting-before : Has (get_or t (table_at k r) 0) c → Fitting p t' (k + 1) w → Fitting p t k w
  fitting-before here W = record {
    stands = W.stands;
    inside = λ j h lj. ⊎_elim
        (λ q. subst (λ (m : ℕ). Has (get_or t (table_at m (row w m)) 0) (column w m)) q (rw (ec, er) here))
        (λ q. (B.each j (row w j) lj (L.all j (omega arith) lj) (stands W.stands j lj).row_below).only (column w j) (W.inside j (omega arith) lj))
        (eq-or-lt_of_le {n = k} {m = j} h);
  }

-- where the messages still unplaced find no room in the table, nothing fits
pub no_room : {p t : List ℕ} {k l : ℕ} {b : Bool} → From k (messages p) l → Cautious p t l b → b ≡ false → Full p t k
no_room L A e = record { none = λ w W. (A.refuses e).none w W.stands (record { has = λ j lj hj. W.inside j (L.late j hj) lj }) }

-- ---- what fits into the table of all places that may be taken is what has no fault and no cell that is taken
module _ {p o t : List ℕ} (A : Allows p o t) where
  suits-fits : (w : List ℕ) → Suiting p o w → Fitting p t 0 w
  suits-fits w S = record {
    stands = S.stands;
    inside = λ j h lj. (A.each j (row w j) lj (stands S.stands j lj).row_below).holds (column w j) record { own = fault-own p w j (S.stands.each j lj); free = S.free j lj };
  }

  fits-suits : (w : List ℕ) → Fitting p t 0 w → Suiting p o w
  fits-suits w W = record {
    stands = W.stands;
    free = λ j lj. ((A.each j (row w j) lj (stands W.stands j lj).row_below).only (column w j) (W.inside j (omega arith) lj)).free;
  }

  pub searched-around : (n : ℕ) (v : List ℕ) (r : Option (List ℕ)) → Searched (Fitting p t 0) n 0 v r → Searched (Suiting p o) n 0 v r
  searched-around n v (Some u) F = best-same suits-fits fits-suits F
  searched-around n v None N = nowhere-same suits-fits N

-- and where no cell is taken, what has no fault
module _ {p : List ℕ} (wf : WellFormed p) where
  stands-suits : (w : List ℕ) → Stand p (messages p) w → Suiting p (replicate most_rows 0) w
  stands-suits w S = record {
    stands = S;
    free = λ j lj b.
        let row_is = row w j + b.turn * repeat p j in
        has-none (column w j)
        (subst (λ (x : ℕ). Has x (column w j)) (get_or-replicate {A = ℕ} most_rows row_is 0 0 (omega (arith, b.low, wf.header.rows-most))) b.set);
  }

  pub best-all : {n : ℕ} {v u : List ℕ} → Best (Suiting p (replicate most_rows 0)) n 0 v u → Best (Stand p (messages p)) n 0 v u
  best-all F = best-same stands-suits (λ w S. S.stands) F

  pub nowhere-all : {v : List ℕ} → Nowhere (Suiting p (replicate most_rows 0)) 0 v → Nowhere (Stand p (messages p)) 0 v
  nowhere-all N = nowhere-same stands-suits N

-- ---- message k is tried at column c and base row r: w has it there, and t' has what the table t leaves the others then
pub record Tried (p t : List ℕ) (k : ℕ) (v : List ℕ) (c r : ℕ) (w t' : List ℕ) : Type 0 where
  pub few : Few p
  pub below : k < messages p
  pub room : Gives v k
  pub placed : w ≡ put v k c r
  pub left : ℕ
  pub others : From (k + 1) (messages p) left
  pub beside : Beside p left k c r t t'

pub tried : {p t v w t' : List ℕ} {k c r n l : ℕ} → Few p → n ≡ messages p → k < n → plan_words ≤ length v → w ≡ put v k c r → From (k + 1) n l → Beside p l k c r t t'
    → Tried p t k v c r w t'
tried {l = l} few count below long placed others beside = record {
  few = few;
  below = omega (arith, count);
  room = omega (arith, count, few.most);
  placed = placed;
  left = l;
  others = from_all (omega (arith, count)) others;
  beside = beside;
}

-- what is read in the table, and the test of a digit there
has-read : (t : List ℕ) (j r c : ℕ) {at : ℕ} {b : Bool} → at ≡ table_at j r → b ≡ eqb (bit (get_or t at 0) c) 1 → b ≡ true → Has (get_or t (table_at j r) 0) c
has-read t j r c e f g = rw (← e) (eqb-true _ _ (sym f ∙ g))

not-read : (t : List ℕ) (j r c : ℕ) {at : ℕ} {b : Bool} → at ≡ table_at j r → b ≡ eqb (bit (get_or t at 0) c) 1 → b ≡ false → Has (get_or t (table_at j r) 0) c → ⊥
not-read t j r c e f g = rw (← e) (eqb-false _ _ (sym f ∙ g))

module _ {p t v : List ℕ} {k c r at : ℕ} {b : Bool} (is : at ≡ table_at k r) (test : b ≡ eqb (bit (get_or t at 0) c) 1) where
  -- it is none of the message's places
  pub gone-closed : b ≡ false → k < messages p → Gone (Fitting p t k) k v c r → Gone (Fitting p t k) k v c (r + 1)
  gone-closed none lk G = gone-next (Fitting p t k) k v c r G λ w W g ec er. not-read t k r c is test none (rw (← ec, ← er) (W.inside k (omega arith) lk))

  module _ (some : b ≡ true) {w t' : List ℕ} (T : Tried p t k v c r w t') where
    -- the search goes on behind it
    pub begun-next : r < repeat p k → Begun p t k v → Begun p t' (k + 1) w
    begun-next lr B = record {
      within = omega (arith, T.below);
      stands = put-stands p v k c r T.room T.placed T.below lr B.stands B.leaves refl (has-read t k r c is test some);
      leaves = leaves-more p v k c r T.room T.placed T.others B.leaves T.beside;
    }

    -- and finds something there
    pub found-there : {u : List ℕ} → Gone (Fitting p t k) k v c r → Best (Fitting p t' (k + 1)) (messages p) (k + 1) w u → Best (Fitting p t k) (messages p) k v u
    found-there G S = found (Fitting p t k) k v (messages p) c r (Fitting p t' (k + 1)) T.below T.room T.placed S
        (λ ec er W. fitting-before T.few T.below T.others T.beside ec er (has-read t k r c is test some) W)
        (λ u W ec er. fitting-then T.few T.below T.others T.beside ec er W)
        G

-- or finds nothing there
pub gone-tried : {p t v w t' : List ℕ} {k c r : ℕ} → Tried p t k v c r w t' → Nowhere (Fitting p t' (k + 1)) (k + 1) w → Gone (Fitting p t k) k v c r → Gone (Fitting p t k) k v c (r + 1)
gone-tried {p} {t} {v} {w} {t'} {k} {c} {r} T N G =
    gone-next (Fitting p t k) k v c r G λ u W g ec er.
    N.none u (fitting-then T.few T.below T.others T.beside ec er W) (rw T.placed (put-agree v k c r T.room g ec er))
