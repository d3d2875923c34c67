-- The messages without a kept placement as a problem of their own: what suits it around the cells of the kept ones are the proposals of the whole problem that keep
-- these, in the same order.
use Prim.Native.Nat.{ℕ, zero, suc, ◌+◌, ◌*◌, ◌<◌, ◌≤◌}
use mathlib.Core.Path.{◌≡◌, refl, sym, ap, subst, ◌∙◌}
use mathlib.Core.Bool.{true}
use mathlib.Core.List.{List}
use mathlib.Core.Logic.{inl, inr, ⊎_elim}
use native.Mathlib.Nat.{eq-or-lt_of_le, le_of_suc-le-suc}
use native.Mathlib.Omega.{arith}
use lib.ListN.{length, get_or, replicate, length-set, length-replicate}
use Rattle.basics.proofs.Tests.{true-or, not-both, below_or}
use Rattle.rules.specs.Cells.{Here}
use Rattle.rules.specs.Parts.{Member}
use Rattle.rules.specs.Problem.{rows, messages, repeat, Gives, column, row, WellFormed, Placed}
use Rattle.rules.specs.Tests.{own_fault, Stand}
use Rattle.rules.proofs.Bounds.{member}
use Rattle.rules.proofs.Cells.{cell-meets, meets-cell}
use Rattle.rules.proofs.Meaning.{own_alone, Meets, meets-is, is-meets, fault-sound, sound-fault}
use Rattle.kept.specs.Kept.{keeps, put, Keeping}
use Rattle.kept.proofs.Nobody.{none_row}
use Rattle.row_words.specs.RowWords.{SetBefore}
use Rattle.proposal.proofs.KeptMet.{KeptClear, kept-faultless}
use Rattle.places.proofs.Meets.{fault-own, turned, not-met}
use Rattle.rest.specs.Part.{Part, Numbers}
use Rattle.rest.specs.Joined.{Joined}
use Rattle.rest.proofs.Formed.{free-numbers, part-formed}
use Rattle.rest.proofs.Same.{part-rows, part-repeat, own-part, part-own, meets-part, part_meets}
use Rattle.planner.specs.Order.{Agree, NotAfter}
use Rattle.planner.specs.Search.{Suiting}
use Rattle.planner.specs.Complete.{Sound}
use Rattle.planner.proofs.Order.{put_keeps, put-column, put-row}
use Rattle.std.specs.Prelude.{Ok}

-- ---- w has the messages whose numbers are in m where v has the slots, the first h
pub record Picked (w m v : List ℕ) (h : ℕ) : Type 0 where
  pub columns-same : (s : ℕ) → s < h → column w (get_or m s 0) ≡ column v s
  pub rows_same : (s : ℕ) → s < h → row w (get_or m s 0) ≡ row v s

-- for each w there is such a v, of n slots
pub pick : List ℕ → List ℕ → ℕ → ℕ → List ℕ
pick w m n zero = replicate (2 * n) 0
pick w m n (suc s) = put (pick w m n s) s (column w (get_or m s 0)) (row w (get_or m s 0))

pub pick-long : (w m : List ℕ) (n s : ℕ) → length (pick w m n s) ≡ 2 * n
unfolding pick
pick-long w m n zero = length-replicate {A = ℕ} (2 * n) 0
pick-long w m n (suc s) = simp length-set (pick-long w m n s)

picks : (w m : List ℕ) (n s : ℕ) → s ≤ n → Picked w m (pick w m n s) s
unfolding pick
picks w m n zero h = record { columns-same = λ i l. absurd (omega arith); rows_same = λ i l. absurd (omega arith) }
picks w m n (suc s) h =
    let v = pick w m n s in
    let c = column w (get_or m s 0) in
    let r = row w (get_or m s 0) in
    let before = picks w m n s (omega arith) in
    let room : Gives v s = let long = pick-long w m n s in omega arith in
    record {
      columns-same = λ i l. ⊎_elim
          (λ e. rw e (sym (put-column v s c r room)))
          (λ g. before.columns-same i g ∙ (put_keeps v s c r).columns-same i g)
          (eq-or-lt_of_le (le_of_suc-le-suc l));
      rows_same = λ i l. ⊎_elim
          (λ e. rw e (sym (put-row v s c r room)))
          (λ g. before.rows_same i g ∙ (put_keeps v s c r).rows_same i g)
          (eq-or-lt_of_le (le_of_suc-le-suc l));
    }

pub picked : (w m : List ℕ) (n : ℕ) → Picked w m (pick w m n n) n
picked w m n = picks w m n n (omega arith)

-- ---- some messages, as they rise
module _ {p m : List ℕ} {n : ℕ} (N : Numbers p m n) where
  -- two slots are of two messages
  two : (s u : ℕ) → s < n → u < n → (s ≡ u → ⊥) → get_or m s 0 ≡ get_or m u 0 → ⊥
  two s u ls lu ne e =
      ⊎_elim
      (λ l. let h = N.rising s u l lu in omega arith)
      (λ l. ⊎_elim (λ f. ne (sym f)) (λ g. let h = N.rising u s g ls in omega arith) (eq-or-lt_of_le l))
      (below_or s u)

  -- a slot whose message comes before is before
  pub slot-before : (s b : ℕ) → s < n → b < n → get_or m s 0 < get_or m b 0 → s < b
  slot-before s b ls lb l =
      ⊎_elim
      (λ h. h)
      (λ h. absurd (⊎_elim (λ e. let same = ap (λ (i : ℕ). get_or m i 0) e in omega arith) (λ g. let r = N.rising b s g ls in omega arith) (eq-or-lt_of_le h)))
      (below_or s b)

  -- what has no fault has none by their slots, in the problem that they make
  module _ {q w v : List ℕ} (Q : Part p m n q) (W : Stand p (messages p) w) (P : Picked w m v n) where
    slot-own : (s : ℕ) → s < n → own_fault q s (column v s) (row v s) ≡ Ok tt
    slot-own s ls = part-own Q s (column v s) (row v s) ls (rw (← P.columns-same s ls, ← P.rows_same s ls) (fault-own p w (get_or m s 0) (W.each _ (N.below s ls))))

    pub slot-stands : Stand q (messages q) v
    slot-stands = record {
      each = λ s l.
          let ls : s < n = let e = Q.count in omega arith in
          sound-fault q v s record {
            alone = own_alone q s (column v s) (row v s) (slot-own s ls);
            clear = λ i li met.
                let lower : i < n = omega arith in
                not-met W (get_or m i 0) (get_or m s 0) (N.below i lower) (N.below s ls) (two i s lower ls (λ e. omega arith))
                (meets-part Q lower ls (P.columns-same i lower) (P.rows_same i lower) (P.columns-same s ls) (P.rows_same s ls) (meets-is q v i s met));
          };
    }

-- ---- those without a kept placement
module _ {p k t m q : List ℕ} {n : ℕ} (S : Sound p k t m n) (Q : Part p m n q) where
  kept : KeptClear p k
  kept = (kept-faultless p k).0 S.faultless

  numbers : Numbers p m n
  numbers = free-numbers S.free

  pub rest-formed : WellFormed q
  rest-formed = part-formed numbers S.formed (let few = S.few in omega arith) Q

  one_of : (j : ℕ) → j < messages p → Member p j
  one_of j l = member S.formed l

  -- no slot is of a kept message
  unlike : (j s : ℕ) → keeps k j ≡ true → s < n → j ≡ get_or m s 0 → ⊥
  unlike j s y ls e = not-both (subst (λ (i : ℕ). keeps k i ≡ true) e y) (S.free.not-kept s ls)

  -- who has a cell by the row words is kept: one who is not has none
  has_kept : {i c : ℕ} (j : ℕ) → i < rows p → Here p k j i c → keeps k j ≡ true
  has_kept {i} j li h = ⊎_elim (λ y. y) (λ y. absurd (omega (arith, none_row k j y, h.same_row, S.formed.header.rows-most))) (true-or (keeps k j))

  -- ---- from a proposal of the whole problem to its slots
  module _ {w v : List ℕ} (W : Stand p (messages p) w) (K : Keeping p k w) (P : Picked w m v n) where
    -- a kept message has its cells in w as in k
    still : {i c : ℕ} (j : ℕ) → j < messages p → i < rows p → Here p k j i c → Here p w j i c
    still j lj li h =
        let y = has_kept j li h in
        record { same-column = K.columns-same j lj y ∙ h.same-column; turn = h.turn; same_row = ap (◌+ h.turn * repeat p j) (K.rows_same j lj y) ∙ h.same_row }

    slot-free : (s : ℕ) → s < n → SetBefore t (column v s) (row v s) (repeat q s) (rows q) → ⊥
    slot-free s ls b =
        let i = row v s + b.turn * repeat q s in
        let li : i < rows p = subst (λ (h : ℕ). i < h) (part-rows Q) b.low in
        let taken = (S.cells.each i (column v s) li).0 b.set in
        let mine : Here p w (get_or m s 0) i (column v s) =
        record { same-column = P.columns-same s ls; turn = b.turn; same_row = rw (P.rows_same s ls, part-repeat Q s ls) refl } in
        not-met W taken.by (get_or m s 0) taken.among (S.free.below s ls) (unlike taken.by s (has_kept taken.by li taken.here) ls)
        (cell-meets (one_of taken.by taken.among) (one_of (get_or m s 0) (S.free.below s ls)) (still taken.by taken.among li taken.here) mine)

    pub suits-rest : Suiting q t v
    suits-rest = record { stands = slot-stands numbers Q W P; free = λ s l. slot-free s (let e = Q.count in omega arith) }

  -- ---- and back, where w joins what is kept with what suits
  module _ {u w : List ℕ} (U : Suiting q t u) (J : Joined k m n u (messages p) w) where
    slots : (s : ℕ) → s < n → s < messages q
    slots s l = let e = Q.count in omega arith

    whole-own : (j : ℕ) → j < messages p → own_fault p j (column w j) (row w j) ≡ Ok tt
    whole-own j lj =
        ⊎_elim
        (λ y. rw (J.kept-columns j lj y, J.kept-rows j lj y) (fault-own p k j (kept.each j lj y)))
        (λ f.
        let at = S.free.all j lj f in
        let s = at.slot in
        let ls = at.among in
        let own = own-part Q s (column u s) (row u s) ls (fault-own q u s (U.stands.each s (slots s ls))) in
        subst (λ (i : ℕ). own_fault p i (column w i) (row w i) ≡ Ok tt) at.is (rw (J.free-columns s ls, J.free-rows s ls) own))
        (true-or (keeps k j))

    whole-placed : (j : ℕ) → j < messages p → Placed p j (column w j) (row w j)
    whole-placed j lj = (own_alone p j (column w j) (row w j) (whole-own j lj)).placed

    -- a kept message has its cells in k as in w
    was : {i c : ℕ} (j : ℕ) → j < messages p → keeps k j ≡ true → Here p w j i c → Here p k j i c
    was j lj y h = record {
      same-column = sym (J.kept-columns j lj y) ∙ h.same-column;
      turn = h.turn;
      same_row = ap (◌+ h.turn * repeat p j) (sym (J.kept-rows j lj y)) ∙ h.same_row;
    }

    -- a kept message and another do not meet: what suits has none of its cells
    kept-apart : (j s : ℕ) → j < messages p → keeps k j ≡ true → s < n → Meets p w j (get_or m s 0) → ⊥
    kept-apart j s lj y ls M =
        let other = get_or m s 0 in
        let ln = S.free.below s ls in
        let both = meets-cell (one_of j lj) (one_of other ln) (whole-placed j lj) (whole-placed other ln) M in
        let i = both.at_row in
        let second = both.second in
        let set = (S.cells.each i (column w other) both.low).1 record { by = j; among = lj; here = was j lj y both.first } in
        let row_is : row u s + second.turn * repeat q s ≡ i = rw (← J.free-rows s ls, part-repeat Q s ls) second.same_row in
        U.free s (slots s ls) record {
          turn = second.turn;
          low = subst (λ (h : ℕ). row u s + second.turn * repeat q s < h) (sym (part-rows Q)) (omega (arith, both.low, row_is));
          set = rw (row_is, ← J.free-columns s ls) set;
        }

    -- nor do two kept ones, by their test, nor two others, by theirs
    both-kept : (i j : ℕ) → i < j → j < messages p → keeps k i ≡ true → keeps k j ≡ true → Meets p w i j → ⊥
    both-kept i j l lj y z M =
        let li : i < messages p = omega arith in
        (fault-sound p k j (kept.each j lj z)).clear i l (is-meets p k i j record {
          one-column = sym (J.kept-columns i li y) ∙ M.one-column ∙ J.kept-columns j lj z;
          rows_agree = rw (← J.kept-rows i li y, ← J.kept-rows j lj z) M.rows_agree;
        })

    both-free : (s b : ℕ) → s < n → b < n → (s ≡ b → ⊥) → Meets p w (get_or m s 0) (get_or m b 0) → ⊥
    both-free s b ls lb ne M =
        not-met U.stands s b (slots s ls) (slots b lb) ne
        (part_meets Q ls lb (J.free-columns s ls) (J.free-rows s ls) (J.free-columns b lb) (J.free-rows b lb) M)

    whole_apart : (i j : ℕ) → i < j → j < messages p → Meets p w i j → ⊥
    whole_apart i j l lj M =
        let li : i < messages p = omega arith in
        ⊎_elim
        (λ y. ⊎_elim
        (λ z. both-kept i j l lj y z M)
        (λ g. let b = S.free.all j lj g in kept-apart i b.slot li y b.among (subst (λ (h : ℕ). Meets p w i h) (sym b.is) M))
        (true-or (keeps k j)))
        (λ f.
        let a = S.free.all i li f in
        let ea = a.is in
        ⊎_elim
        (λ z. kept-apart j a.slot lj z a.among (subst (λ (h : ℕ). Meets p w j h) (sym ea) (turned M)))
        (λ g.
        let b = S.free.all j lj g in
        let eb = b.is in
        both-free a.slot b.slot a.among b.among
        (λ e. let same = ap (λ (s : ℕ). get_or m s 0) e in omega arith)
        (subst (λ (h : ℕ). Meets p w (get_or m a.slot 0) h) (sym eb) (subst (λ (h : ℕ). Meets p w h j) (sym ea) M)))
        (true-or (keeps k j)))
        (true-or (keeps k i))

    pub stands-whole : Stand p (messages p) w
    stands-whole = record {
      each = λ j lj. sound-fault p w j record {
        alone = own_alone p j (column w j) (row w j) (whole-own j lj);
        clear = λ i l met. whole_apart i j l lj (meets-is p w i j met);
      };
    }

  -- ---- the order of two that keep k is that of their slots
  module _ {w x u v : List ℕ} (A : Keeping p k w) (B : Keeping p k x) (P : Picked w m u n) (R : Picked x m v n) where
    same-below : (h : ℕ) → h ≤ messages p → ((s : ℕ) → s < n → get_or m s 0 < h → (column u s ≡ column v s) × (row u s ≡ row v s)) → Agree w x h
    same-below h most same = record { columns-same = λ j l. (both j l).0; rows_same = λ j l. (both j l).1 }
      where
        both : (j : ℕ) → j < h → (column w j ≡ column x j) × (row w j ≡ row x j)
        both j l =
            let lj : j < messages p = omega arith in
            ⊎_elim
            (λ y. (A.columns-same j lj y ∙ sym (B.columns-same j lj y), A.rows_same j lj y ∙ sym (B.rows_same j lj y)))
            (λ f.
            let a = S.free.all j lj f in
            let s = a.slot in
            let ls = a.among in
            let e = a.is in
            let equal = same s ls (omega arith) in
            subst (λ (i : ℕ). (column w i ≡ column x i) × (row w i ≡ row x i)) e
            (P.columns-same s ls ∙ equal.0 ∙ sym (R.columns-same s ls), P.rows_same s ls ∙ equal.1 ∙ sym (R.rows_same s ls)))
            (true-or (keeps k j))

    pub not-after-whole : NotAfter n u v → NotAfter (messages p) w x
    not-after-whole (inl a) = inl (same-below (messages p) (omega arith) (λ s ls l. (a.columns-same s ls, a.rows_same s ls)))
    not-after-whole (inr f) =
        let b = f.message in
        let lb = f.below in
        inr record {
          message = get_or m b 0;
          below = S.free.below b lb;
          agree = same-below (get_or m b 0) (let l = S.free.below b lb in omega arith) (λ s ls l.
              let g = slot-before numbers s b ls lb l in
              (f.agree.columns-same s g, f.agree.rows_same s g));
          before = rw (P.columns-same b lb, P.rows_same b lb, R.columns-same b lb, R.rows_same b lb) f.before;
        }
