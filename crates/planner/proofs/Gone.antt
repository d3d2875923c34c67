-- What the search knows at each place that it comes to, and that what it finds is the least.
use Prim.Native.Nat.{ℕ, ◌+◌, ◌<◌, ◌≤◌}
use mathlib.Core.Path.{◌≡◌, refl, sym, ◌∙◌}
use mathlib.Core.List.{List}
use mathlib.Core.Logic.{inl, inr, ⊎_elim}
use native.Mathlib.Nat.{eq-or-lt_of_le}
use native.Mathlib.Omega.{arith}
use borrow.Author.Count.{below_more}
use lib.ListN.{get_or, length-set}
use Rattle.basics.specs.Bits.{Has}
use Rattle.basics.proofs.Tests.{never, true-T}
use Rattle.rules.specs.Problem.{messages, repeat, Gives, column, row}
use Rattle.rules.specs.Tests.{own_fault, meeting_fault, fault, Stand}
use Rattle.rules.proofs.Meaning.{meets-is, unmet-clear}
use Rattle.rules.proofs.Prefix.{same-fault}
use Rattle.places.proofs.Meets.{meets-clash}
use Rattle.kept.specs.Kept.{put}
use Rattle.planner.specs.Order.{Agree, Before}
use Rattle.places.specs.Places.{table_at}
use Rattle.planner.specs.Search.{Leaves, Best, Nowhere}
use Rattle.planner.proofs.Order.{places, agree_refl, agree-sym, agree_trans, agree_less, put_keeps, put-column, put-row, put-agree}
use Rattle.std.specs.Prelude.{Ok}

-- a message's fault goes by the placements up to it
pub fault-agree : (p : List ℕ) {v w : List ℕ} (j : ℕ) → Agree v w (j + 1) → fault p v j ≡ fault p w j
fault-agree p {v} {w} j g = same-fault p v w j λ i l. record { column-is = g.columns-same i (omega arith); row_is = g.rows_same i (omega arith) }

-- ---- message k at column c and base row r
module _ (p v : List ℕ) (k c r : ℕ) where
  put-fault : Gives v k → own_fault p k c r ≡ Ok tt → meeting_fault p (put v k c r) k ≡ Ok tt → fault p (put v k c r) k ≡ Ok tt
  unfolding fault
  put-fault room e t = rw (put-column v k c r room, put-row v k c r room, e, t)

  pub put-stood : Stand p k v → fault p (put v k c r) k ≡ Ok tt → Stand p (k + 1) (put v k c r)
  put-stood S e = record {
    each = below_more _ k (λ j l. sym (fault-agree p j (agree_less (j + 1) (omega arith) (put_keeps v k c r))) ∙ S.each j l) e;
  }

  -- where the earlier messages leave it a place
  pub put-stands : {w t : List ℕ} {x : ℕ} → Gives v k → w ≡ put v k c r → k < messages p → r < repeat p k → Stand p k v → Leaves p k v t → x ≡ get_or t (table_at k r) 0 → Has x c
      → Stand p (k + 1) w
  put-stands room e lk lr S L ex g =
      let h = rw ex at g in
      rw e (put-stood S (put-fault room (L.own k r c (omega arith) lk lr h) (unmet-clear p (put v k c r) k λ i l.
      never _ λ t. L.unmet k r c (omega arith) lk lr h i l (meets-clash (sym ((put_keeps v k c r).columns-same i l)) (sym ((put_keeps v k c r).rows_same i l)) (put-column v k c r room)
      (put-row v k c r room) (meets-is p (put v k c r) i k (true-T t))))))

-- ---- none of the proposals A that begin with v's first k has message k before column c and base row r
pub record Gone (A : List ℕ → Type 0) (k : ℕ) (v : List ℕ) (c r : ℕ) : Type 0 where
  pub none : (w : List ℕ) → A w → Agree v w k → Before (column w k) (row w k) c r → ⊥

module _ (A : List ℕ → Type 0) (k : ℕ) (v : List ℕ) where
  pub gone-start : Gone A k v 0 0
  gone-start = record { none = λ w S g b. ⊎_elim (λ l. omega arith) (λ q. let l = q.1 in omega arith) b }

  -- nor there
  pub gone-next : (c r : ℕ) → Gone A k v c r → ((w : List ℕ) → A w → Agree v w k → column w k ≡ c → row w k ≡ r → ⊥) → Gone A k v c (r + 1)
  gone-next c r G here = record {
    none = λ w S g b. ⊎_elim
        (λ l. G.none w S g (inl l))
        (λ q. ⊎_elim (λ e. here w S g q.0 e) (λ l. G.none w S g (inr (q.0, l))) (eq-or-lt_of_le {n = row w k} {m = r} (let l = q.1 in omega arith)))
        b;
  }

  -- a column's last place, of n
  pub gone-column : (c r n : ℕ) → ((w : List ℕ) → A w → row w k < n) → n ≤ r → Gone A k v c r → Gone A k v (c + 1) 0
  gone-column c r n low end G = record {
    none = λ w S g b. ⊎_elim
        (λ l. ⊎_elim
        (λ e. let h = low w S in G.none w S g (inr (e, omega arith)))
        (λ m. G.none w S g (inl m))
        (eq-or-lt_of_le {n = column w k} {m = c} (omega arith)))
        (λ q. let l = q.1 in omega arith)
        b;
  }

  pub gone-all : (c n : ℕ) → ((w : List ℕ) → A w → column w k < n) → n ≤ c → Gone A k v c 0 → Nowhere A k v
  gone-all c n low end G = record { none = λ w S g. let h = low w S in G.none w S g (inl (omega arith)) }

  -- the least behind the first place that is not gone is the least of all; behind it the proposals B are sought
  pub found : (n c r : ℕ) {w u : List ℕ} (B : List ℕ → Type 0) → k < n → Gives v k → w ≡ put v k c r → Best B n (k + 1) w u → (column u k ≡ c → row u k ≡ r → B u → A u)
      → ((x : List ℕ) → A x → column x k ≡ c → row x k ≡ r → B x) → Gone A k v c r → Best A n k v u
  found n c r {w} {u} B h room e F back on G =
      let best : Best B n (k + 1) (put v k c r) u = rw e at F in
      let kept = agree_trans (put_keeps v k c r) (agree_less k (omega arith) best.begins) in
      let ec : column u k ≡ c = sym (best.begins.columns-same k (omega arith)) ∙ put-column v k c r room in
      let er : row u k ≡ r = sym (best.begins.rows_same k (omega arith)) ∙ put-row v k c r room in
      record {
        long = best.long ∙ simp length-set refl;
        begins = kept;
        among = back ec er best.among;
        least = λ x S g. ⊎_elim
            (λ b. absurd (G.none x S g b))
            (⊎_elim
            (λ q. best.least x (on x S q.0 q.1) (put-agree v k c r room g q.0 q.1))
            (λ b. inr record { message = k; below = h; agree = agree_trans (agree-sym kept) g; before = rw (ec, er) b }))
            (places (column x k) (row x k) c r);
      }

  -- all messages are placed
  pub whole : (n : ℕ) → n ≤ k → A v → Best A n k v v
  whole n h a = record { long = refl; begins = agree_refl v k; among = a; least = λ w T g. inl (agree_less n h g) }

-- ---- the same proposals, said otherwise
module _ {A B : List ℕ → Type 0} {k : ℕ} {v : List ℕ} (back : (w : List ℕ) → B w → A w) where
  pub best-same : {n : ℕ} {u : List ℕ} → ((w : List ℕ) → A w → B w) → Best A n k v u → Best B n k v u
  best-same {u = u} on F = record { long = F.long; begins = F.begins; among = on u F.among; least = λ w b. F.least w (back w b) }

  pub nowhere-same : Nowhere A k v → Nowhere B k v
  nowhere-same N = record { none = λ w b. N.none w (back w b) }
