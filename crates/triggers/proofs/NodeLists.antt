-- The messages of an accepted proposal in their order, those that concern a node, behind the reference: that is the node's list.
use Prim.Native.Nat.{ℕ, ◌+◌, ◌%◌, ◌<◌, ◌≤◌}
use mathlib.Core.Path.{◌≡◌, refl, sym, ap, subst, ◌∙◌}
use mathlib.Core.Logic.{⊎_elim}
use mathlib.Core.List.Memᴰ
use mathlib.Core.List.{List, [], ◌∷◌, ◌++◌, Memᴰ}
use native.Mathlib.Decide.{dec_lt}
use native.Mathlib.Omega.{arith}
use lib.ListN.{length}
use Rattle.basics.specs.Rising.{Rising, none, next}
use Rattle.basics.specs.Sums.{only}
use Rattle.basics.proofs.Rising.{head-before, tail-rises}
use Rattle.basics.proofs.Sums.{sum_same}
use Rattle.rules.specs.Problem.{most_rows, most_messages, messages, start, column, row, sends, receives, triggers}
use Rattle.rules.specs.Sends.{Source, reference, message}
use Rattle.rules.specs.Tests.{common}
use Rattle.rules.proofs.Bounds.{member, repeat-most}
use Rattle.rules.proofs.Columns.{behind-reference, one-column}
use Rattle.rules.proofs.Meaning.{is-meets}
use Rattle.proposal.specs.Accepted.{Accepted}
use Rattle.proposal.proofs.Sound.{sound, placed}
use Rattle.triggers.specs.Lists.{concerns, Entered, Before, by-mark, by_row, ListOf}
use Rattle.triggers.specs.Order.{packed, number_in, order, chosen, list_from}
use Rattle.triggers.proofs.Sorting.{by-test, in-sorted, of-sorted, sorted_rises}
use Rattle.triggers.proofs.Choosing.{in-chosen, of-chosen, chosen-sorted, once}
use Rattle.triggers.proofs.Determined.{list-one}

module _ {p w : List ℕ} (a : Accepted p w) where
  few : messages p ≤ most_messages
  few = a.formed.header.messages-most

  pub row_small : (j : ℕ) → j < messages p → row w j < most_rows
  row_small j l = omega (arith, (placed a j l).row_below, repeat-most (member a.formed l))

  -- no two have one mark and one row: the marks of two columns differ, and equal rows in one column meet, whatever the repeats
  not_earlier : (i j : ℕ) → i < j → j < messages p → start p (column w i) ≡ start p (column w j) → row w i ≡ row w j → ⊥
  not_earlier i j k l e f =
      let ci = (placed a i (omega arith)).column-below in
      let cj = (placed a j l).column-below in
      let wi = (a.formed.column (column w i) ci).width-least in
      let wj = (a.formed.column (column w j) cj).width-least in
      ((sound a).each j l).clear i k (is-meets p w i j record {
        one-column = one-column p a.formed (column w i) (column w j) (start p (column w i)) ci cj (omega arith) (omega arith) (omega arith) (omega arith);
        rows_agree = ap (λ (r : ℕ). r % common p i j) f;
      })

  packed-number : (j : ℕ) → j < messages p → number_in (packed p w j) ≡ j
  unfolding packed
  packed-number j l = omega (arith, few)

  pub packed-apart : (i j : ℕ) → i < j → j < messages p → ¬ (packed p w i ≡ packed p w j)
  packed-apart i j k l e = omega (arith, packed-number i (omega arith), packed-number j l, ap number_in e)

  packed-before : (i j : ℕ) → i < messages p → j < messages p → packed p w i < packed p w j → Before p w (message i) (message j)
  unfolding packed
  packed-before i j k l h =
      let ri = row_small i k in
      let rj = row_small j l in
      let m = few in
      elim (dec_lt (start p (column w i)) (start p (column w j))) [
        | yes y ↦ by-mark y
        | no y ↦ by_row (omega arith) (
            elim (dec_lt (row w i) (row w j)) [
              | yes z ↦ z
              | no z ↦ absurd (not_earlier i j (omega arith) l (omega arith) (omega arith))
            ])
      ]

  -- v is the word of a message
  pub record Packs (v : ℕ) : Type 0 where
    pub below : number_in v < messages p
    pub is : v ≡ packed p w (number_in v)

  -- they rise where the words of messages do
  chosen-rises : (n : ℕ) (l : List ℕ) → Rising ◌<◌ l → ((v : ℕ) → Memᴰ v l → Packs v) → Rising (Before p w) (chosen p n l)
  unfolding chosen
  chosen-rises n [] r h = none
  chosen-rises n (x ∷ l) r h =
      let rest = chosen-rises n l (tail-rises r) (λ v m. h v (Memᴰ.tail m)) in
      by-test (λ (t : List Source). Rising (Before p w) (t ++ chosen p n l)) (concerns p n (number_in x))
      (λ _. next
      (λ s m.
      let f = of-chosen p n l s m in
      subst (Before p w (message (number_in x))) (sym f.is) (two (h x (Memᴰ.head refl)) (h f.word (Memᴰ.tail f.member)) (head-before r f.word f.member)))
      rest)
      (λ _. rest)
    where
      two : {x y : ℕ} → Packs x → Packs y → x < y → Before p w (message (number_in x)) (message (number_in y))
      two a b l = packed-before _ _ a.below b.below (omega (arith, a.is, b.is))

  pub packs : (v : ℕ) → Memᴰ v (order p w) → Packs v
  packs v m =
      let q : (j : ℕ) × (j < messages p) × (v ≡ packed p w j) = of-sorted (packed p w) (messages p) v m in
      let e : number_in v ≡ q.0 = ap number_in q.2 ∙ packed-number q.0 q.1 in
      record { below = omega (arith, q.1); is = q.2 ∙ ap (packed p w) (sym e) }

  -- the theorem: the messages in their order, those that concern the node, behind the reference, are the node's list
  pub list-for : (n : ℕ) → ListOf p w n (list_from p n (order p w))
  list-for n = record { only = only-it; all = all_of; rising = next first (chosen-rises n (order p w) (sorted_rises (packed p w) (messages p) packed-apart) packs) }
    where
      only-it : (s : Source) → Memᴰ s (list_from p n (order p w)) → Entered p n s
      only-it s m =
          ⊎_elim (λ e. subst (Entered p n) (sym e) tt)
          (λ k. let f = of-chosen p n (order p w) s k in subst (Entered p n) (sym f.is) ((packs f.word f.member).below, f.concerned))
          (Memᴰ.cases_cons m)

      all_of : (s : Source) → Entered p n s → Memᴰ s (list_from p n (order p w))
      all_of reference h = Memᴰ.head refl
      all_of (message j) h =
          let e : number_in (packed p w j) ≡ j = packed-number j h.0 in
          let there = in-sorted (packed p w) (messages p) j h.0 in
          Memᴰ.tail (Memᴰ.cast (ap message (sym e)) (in-chosen p n (order p w) (packed p w j) there (ap (concerns p n) e ∙ h.1)))

      first : (s : Source) → Memᴰ s (chosen p n (order p w)) → Before p w reference s
      first s m =
          let f = of-chosen p n (order p w) s m in
          let c = (placed a (number_in f.word) (packs f.word f.member).below).column-below in
          subst (Before p w reference) (sym f.is) (by-mark (omega (arith, behind-reference p a.formed _ c, a.formed.header.reference-least)))

  -- its length is the node's trigger count
  pub length-for : (n : ℕ) → length (list_from p n (order p w)) ≡ triggers p n
  unfolding triggers
  length-for n =
      let count = chosen-sorted p n (messages p) (packed p w) in
      let each = sum_same (messages p) (λ j. only (concerns p n (number_in (packed p w j))) 1) (λ j. only (sends p n j) 1 + only (receives p n j) 1)
      (λ j l. ap (λ (i : ℕ). only (concerns p n i) 1) (packed-number j l) ∙ once p n a.formed j l) in
      omega arith

  pub length-list : (n : ℕ) {l : List Source} → ListOf p w n l → length l ≡ triggers p n
  length-list n h = ap length (list-one n h (list-for n)) ∙ length-for n
