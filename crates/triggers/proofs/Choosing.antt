-- Those of a row of words that concern a node: which they are, and how many.
use Prim.Native.Nat.{ℕ, zero, suc, ◌+◌, ◌<◌}
use mathlib.Core.Path.{◌≡◌, refl, ap, ◌∙◌}
use mathlib.Core.Bool.{Bool, true, false, cond, ◌||◌}
use mathlib.Core.Logic.{⊎_elim}
use mathlib.Core.List.Memᴰ
use mathlib.Core.List.{List, [], ◌∷◌, ◌++◌, Memᴰ}
use native.Mathlib.Omega.{arith}
use borrow.Author.Tests.{eqb-true, ne_eqb}
use lib.Dec.{ltb}
use lib.ListN.{length}
use Rattle.basics.specs.Bits.{bit}
use Rattle.basics.specs.Sums.{sum, only}
use Rattle.basics.proofs.Tests.{not-both}
use Rattle.rules.specs.Problem.{messages, sender, receivers, sends, receives, WellFormed}
use Rattle.rules.specs.Sends.{Source, message}
use Rattle.triggers.specs.Lists.{concerns}
use Rattle.triggers.specs.Order.{number_in, insert, sorted, chosen}
use Rattle.triggers.proofs.Sorting.{by-test}

module _ (p : List ℕ) (n : ℕ) where
  pub in-chosen : (l : List ℕ) (v : ℕ) → Memᴰ v l → concerns p n (number_in v) ≡ true → Memᴰ (message (number_in v)) (chosen p n l)
  unfolding chosen
  in-chosen [] v m c = absurd (Memᴰ.not-nil m)
  in-chosen (x ∷ l) v m c =
      by-test (λ (t : List Source). Memᴰ (message (number_in v)) (t ++ chosen p n l)) (concerns p n (number_in x))
      (λ _. ⊎_elim (λ e. Memᴰ.head (ap (λ (y : ℕ). message (number_in y)) e)) (λ k. Memᴰ.tail (in-chosen l v k c)) (Memᴰ.cases_cons m))
      (λ t. ⊎_elim (λ e. not-both c (ap (λ (y : ℕ). concerns p n (number_in y)) e ∙ t)) (λ k. in-chosen l v k c) (Memᴰ.cases_cons m))

  -- it is that of a word of l
  pub record From (l : List ℕ) (s : Source) : Type 0 where
    pub word : ℕ
    pub member : Memᴰ word l
    pub is : s ≡ message (number_in word)
    pub concerned : concerns p n (number_in word) ≡ true

  further : {x : ℕ} {l : List ℕ} {s : Source} → From l s → From (x ∷ l) s
  further f = record { word = f.word; member = Memᴰ.tail f.member; is = f.is; concerned = f.concerned }

  pub of-chosen : (l : List ℕ) (s : Source) → Memᴰ s (chosen p n l) → From l s
  unfolding chosen
  of-chosen [] s m = absurd (Memᴰ.not-nil m)
  of-chosen (x ∷ l) s m =
      by-test (λ (t : List Source). Memᴰ s (t ++ chosen p n l) → From (x ∷ l) s) (concerns p n (number_in x))
      (λ t k. ⊎_elim (λ e. record { word = x; member = Memᴰ.head refl; is = e; concerned = t }) (λ h. further (of-chosen l s h)) (Memᴰ.cases_cons k))
      (λ _ k. further (of-chosen l s k))
      m

  -- how many they are does not depend on the order
  chosen-cons : (v : ℕ) (l : List ℕ) → length (chosen p n (v ∷ l)) ≡ only (concerns p n (number_in v)) 1 + length (chosen p n l)
  unfolding chosen
  chosen-cons v l = go (concerns p n (number_in v))
    where
      go : (b : Bool) → length (cond b (message (number_in v) ∷ []) [] ++ chosen p n l) ≡ only b 1 + length (chosen p n l)
      go true = omega arith
      go false = omega arith

  chosen-insert : (v : ℕ) (l : List ℕ) → length (chosen p n (insert v l)) ≡ only (concerns p n (number_in v)) 1 + length (chosen p n l)
  unfolding insert
  chosen-insert v [] = chosen-cons v []
  chosen-insert v (x ∷ l) =
      let whole = chosen-cons x l in
      by-test (λ (t : List ℕ). length (chosen p n t) ≡ only (concerns p n (number_in v)) 1 + length (chosen p n (x ∷ l))) (ltb v x)
      (λ _. let a = chosen-cons v (insert x l) in let b = chosen-insert x l in omega arith)
      (λ _. let a = chosen-cons x (insert v l) in let b = chosen-insert v l in omega arith)

  pub chosen-sorted : (m : ℕ) (g : ℕ → ℕ) → length (chosen p n (sorted m g)) ≡ sum m (λ j. only (concerns p n (number_in (g j))) 1)
  unfolding chosen sorted sum
  chosen-sorted zero g = refl
  chosen-sorted (suc m) g = let a = chosen-insert (g m) (sorted m g) in let b = chosen-sorted m g in omega arith

  -- a node never sends and receives one message
  pub once : WellFormed p → (j : ℕ) → j < messages p → only (concerns p n j) 1 ≡ only (sends p n j) 1 + only (receives p n j) 1
  once wf j l = go (sends p n j) (receives p n j) (λ t. not_itself (eqb-true (sender p j) n t))
    where
      not_itself : sender p j ≡ n → receives p n j ≡ false
      not_itself e = ne_eqb (bit (receivers p j) n) 1 (λ h. omega (arith, (wf.identity j l).not-to-itself, ap (bit (receivers p j)) e))

      go : (a b : Bool) → (a ≡ true → b ≡ false) → only (a || b) 1 ≡ only a 1 + only b 1
      go true b h = rw (h refl) refl
      go false b h = omega arith
