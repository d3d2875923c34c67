-- The entries of a row of words, written one behind the other.
use Prim.Native.Nat.{ℕ, ◌+◌, ◌*◌, ◌<◌, ◌≤◌}
use mathlib.Core.Path.{◌≡◌, refl, sym, ap, ◌∙◌}
use mathlib.Core.List.{List, [], ◌∷◌, ◌++◌, append-nil, append_assoc}
use native.Mathlib.Numerals.{add-one}
use native.Mathlib.Omega.{arith}
use lib.ListN.{length, get_or, take, drop, length-append, take-append-drop}
use lib.Seq.{take-suc}
use Rattle.basics.proofs.Written.{Begins, begins, begins-none}
use Rattle.rules.specs.Problem.{ref_id}
use Rattle.rules.specs.Sends.{Source, reference}
use Rattle.triggers.specs.Lists.{entry_words, entry, entries}
use Rattle.triggers.specs.Order.{number_in, chosen, message_entry, message_entries}

module _ (p w : List ℕ) (n : ℕ) where
  entries-append : (a b : List Source) → entries p w n (a ++ b) ≡ entries p w n a ++ entries p w n b
  unfolding entries
  entries-append [] b = refl
  entries-append (s ∷ a) b = rw (entries-append a b, append_assoc)

  chosen-append : (a b : List ℕ) → chosen p n (a ++ b) ≡ chosen p n a ++ chosen p n b
  unfolding chosen
  chosen-append [] b = refl
  chosen-append (v ∷ a) b = rw (chosen-append a b, append_assoc)

  pub length-entries : (l : List Source) → length (entries p w n l) ≡ entry_words * length l
  unfolding entries entry
  length-entries [] = refl
  length-entries (s ∷ l) = let a = length-entries l in omega arith

  -- what stands in the list once the first i words of o are done
  abbrev pub front : List ℕ → ℕ → List ℕ
  front o i = message_entries p w (take i o) n

  parts : (a b : List ℕ) → message_entries p w (a ++ b) n ≡ message_entries p w a n ++ message_entries p w b n
  parts a b = rw (chosen-append a b, entries-append (chosen p n a) (chosen p n b))

  module _ (o : List ℕ) where
    pub front-none : (d : List ℕ) → Begins (front o 0) d d 0
    unfolding entries chosen
    front-none d = begins-none d

    pub front-next : (i j : ℕ) → i < length o → j ≡ number_in (get_or o i 0) → front o (i + 1) ≡ front o i ++ message_entry p w n j
    unfolding chosen
    front-next i j l e = rw (add-one i, take-suc o i 0 l, parts (take i o) (get_or o i 0 ∷ []), append-nil, e)

    pub front-room : (i : ℕ) {m : ℕ} → length (message_entries p w o n) ≤ m → length (front o i) ≤ m
    front-room i h =
        let e = ap length (ap (λ (t : List ℕ). message_entries p w t n) (sym (take-append-drop i o)) ∙ parts (take i o) (drop i o)) in
        omega (arith, simp length-append at e)

  -- the reference's entry comes first
  module _ (l : List Source) (d : List ℕ) (room : length (entries p w n (reference ∷ l)) ≤ length d) where
    pub reference-room : entry_words ≤ length d
    unfolding entries entry
    reference-room = omega arith

    pub reference-begins : {r : ℕ} {e : List ℕ} → r ≡ ref_id p → e ≡ r ∷ 0 ∷ 0 ∷ 1 ∷ drop entry_words d → Begins (entry p w n reference) d e entry_words
    unfolding entry
    reference-begins er e = begins (record { count = refl; is = e ∙ ap (λ (x : ℕ). x ∷ 0 ∷ 0 ∷ 1 ∷ drop entry_words d) (omega arith) }) reference-room

  pub reference-first : (l : List Source) → entries p w n (reference ∷ l) ≡ entry p w n reference ++ entries p w n l
  unfolding entries
  reference-first l = refl
