-- What the look-ahead learns from a place that leaves the others no room: what has no fault does not have it.
use Prim.Native.Nat.{ℕ, ◌<◌}
use mathlib.Core.Path.{◌≡◌, refl, sym, subst, ◌∙◌}
use mathlib.Core.Bool.{Bool, false}
use mathlib.Core.List.{List}
use Rattle.std.specs.Prelude.{None}
use native.Mathlib.Decide.{ℕ_discrete}
use native.Mathlib.Omega.{arith}
use lib.ListN.{length, get_or, set}
use lib.Seq.{get_or-set_same, get_or-set_other}
use Rattle.basics.specs.Bits.{Has, Cleared}
use Rattle.basics.proofs.Bits.{has-none}
use Rattle.rules.specs.Problem.{messages, repeat, column, row}
use Rattle.rules.specs.Tests.{Stand}
use Rattle.rules.proofs.Bounds.{member, repeat-most}
use Rattle.rules.proofs.Meaning.{stands}
use Rattle.places.specs.Places.{table_at, Few, Beside, Copied, FirstRow, Within, Shut, Narrowed}
use Rattle.lookahead.specs.Probe.{Cautious}
use Rattle.places.proofs.Meets.{low_column, clash-meets, not-met}

-- ---- a message without a place
pub shut_none : {p a : List ℕ} {l m n : ℕ} → m < messages p → Has l m → n ≡ repeat p m → FirstRow a m n None → Shut p a l
shut_none {p} {a} {l} {m} lm hm e F = record {
  none = λ w S W.
      let b = (stands S m lm).row_below in
      has-none (column w m) (subst (λ (x : ℕ). Has x (column w m)) (F (row w m) (omega arith)) (W.has m lm hm));
}

-- ---- a place that leaves the others no room
module _ {p a b : List ℕ} {l l' m c d r : ℕ} (F : Few p) (lm : m < messages p) (C : Cleared l m l') (e : d ≡ c) (B : Beside p l' m d r a b) (T : Shut p b l') where
  not_there : {w : List ℕ} → Stand p (messages p) w → Within p a l w → row w m ≡ r → column w m ≡ c → ⊥
  not_there {w} S W er ec = T.none w S (record {
    has = λ k lk hk.
        let at = stands S k lk in
        (B.each k (row w k) lk hk at.row_below).keeps (column w k) (low_column F at) (W.has k lk (C.only k hk))
        (λ x. not-met S m k lm lk (λ q. C.gone (subst (λ (j : ℕ). Has l' j) (sym q) hk)) (clash-meets (ec ∙ sym e) er refl refl x));
  })

  pub narrowed-tried : {at x : ℕ} → r < repeat p m → at ≡ table_at m r → at < length a → Cleared (get_or a at 0) c x → Narrowed p l a (set a at x)
  narrowed-tried {at} {x} lr q room D = record {
    keeps = λ w S W. record {
      has = λ j lj hj.
          let here = stands S j lj in
          let low = here.row_below in
          let most = repeat-most (member F.formed lj) in
          let top = repeat-most (member F.formed lm) in
          let old = W.has j lj hj in
          elim (ℕ_discrete (table_at j (row w j)) at) [
            | yes f ↦
                let ej : j ≡ m = omega arith in
                let er : row w j ≡ r = omega arith in
                let big = here.column-below in
                let cols = F.formed.header.columns-most in
                subst (λ (k : ℕ). Has (get_or (set a at x) k 0) (column w j)) (sym f)
                (subst (λ (y : ℕ). Has y (column w j)) (sym (get_or-set_same a at x 0 room))
                (D.keeps (column w j) (low_column F here)
                (λ ec. not_there S W (subst (λ (k : ℕ). row w k ≡ r) ej er) (subst (λ (k : ℕ). column w k ≡ c) ej ec))
                (subst (λ (k : ℕ). Has (get_or a k 0) (column w j)) f old)))
            | no f ↦ subst (λ (y : ℕ). Has y (column w j)) (sym (get_or-set_other a at _ x 0 f)) old
          ];
    };
  }

-- ---- the answer
pub cautious-no : {p a b : List ℕ} {l : ℕ} → Narrowed p l a b → Shut p b l → Cautious p a l false
cautious-no N T = record { refuses = λ e. record { none = λ w S W. T.none w S (N.keeps w S W) } }

pub cautious-copied : {p a b : List ℕ} {l : ℕ} {t : Bool} → Copied p l a b → Cautious p b l t → Cautious p a l t
cautious-copied C A = record {
  refuses = λ e. record {
    none = λ w S W. (A.refuses e).none w S (record { has = λ j lj hj. rw (C.each j (row w j) lj hj (stands S j lj).row_below) (W.has j lj hj) });
  };
}
