-- The words that the call writes are the lists, as many as its rule says, and its answer is what it promises.
use Prim.Native.Nat.{ℕ, ◌+◌, ◌*◌, ◌≤◌}
use mathlib.Core.Path.{◌≡◌, refl, sym, ap, ap₂, ◌∙◌}
use mathlib.Core.List.{List, [], ◌∷◌, ◌++◌}
use native.Mathlib.Omega.{arith}
use borrow.Author.Tests.{ltb-false}
use lib.Dec.{ltb}
use lib.ListN.{length, take, drop, length-append}
use Rattle.std.specs.Prelude.{Ok, Err, IsErrAnd}
use Rattle.basics.specs.Runs.{Put}
use Rattle.basics.specs.Sums.{sum}
use Rattle.basics.proofs.Runs.{run-same, length_run}
use Rattle.basics.proofs.Sums.{sum_same, sum-most, sum-times}
use Rattle.basics.proofs.Written.{Begins, begins, length-pieces}
use Rattle.rules.specs.declared.Refusal.{Refusal}
use Rattle.rules.specs.declared.Refusal.TheVariants.{Room}
use Rattle.rules.specs.Paper.{Answer, room_fault}
use Rattle.rules.specs.Refusal.{guard}
use Rattle.rules.proofs.Faults.{clear-guard, handed}
use Rattle.rules.specs.Problem.{most_triggers, messages, nodes, triggers, WellFormed}
use Rattle.rules.proofs.Told.{answers-done}
use Rattle.proposal.specs.Accepted.{Accepted}
use Rattle.triggers.specs.Lists.{entry_words, Lists, size, most_words}
use Rattle.triggers.specs.Order.{order, list_from, list_words, count_word, counts_of, lists_from, all_words}
use Rattle.triggers.specs.Parts.{Ordered}
use Rattle.triggers.specs.Promise.{ListingAccepted}
use Rattle.triggers.proofs.Determined.{lists-one}
use Rattle.triggers.proofs.NodeLists.{list-for, length-for}
use Rattle.triggers.proofs.Results.{lists-refused}
use Rattle.triggers.proofs.Written.{length-entries}

-- no well-formed problem has lists of more words
pub size-most : {p : List ℕ} → WellFormed p → size p ≤ most_words
unfolding size
size-most {p} formed = omega (arith, sum-most nodes most_triggers (triggers p) (λ n l. omega (arith, formed.triggers-most n l, formed.header.limit-most)))

length-counts : (p : List ℕ) → length (counts_of p) ≡ nodes
length-counts p = length_run (count_word p) 1 (λ n. refl) nodes

module _ {p w : List ℕ} (a : Accepted p w) where
  pub written-lists : Lists p w (all_words p w)
  written-lists = record {
    list = λ n. list_from p n (order p w);
    each = λ n l. list-for a n;
    words = ap (◌++ lists_from p w (order p w)) (run-same (count_word p) (λ n. length (list_from p n (order p w)) ∷ []) nodes (λ n l. ap (◌∷ []) (sym (length-for a n))));
  }

  length-lists : length (lists_from p w (order p w)) ≡ entry_words * sum nodes (triggers p)
  length-lists =
      let g : ℕ → List ℕ = list_words p w (order p w) in
      length-pieces g nodes
      ∙ sum_same nodes (λ n. length (g n)) (λ n. entry_words * triggers p n) (λ n l. length-entries p w n (list_from p n (order p w)) ∙ ap (entry_words *◌) (length-for a n))
      ∙ sum-times nodes entry_words (triggers p)

  pub length-written : length (all_words p w) ≡ size p
  unfolding size
  length-written = length-append (counts_of p) (lists_from p w (order p w)) ∙ ap₂ ◌+◌ (length-counts p) length-lists

  -- the theorem: the lists have as many words as the triggers say
  pub lists-size : {x : List ℕ} → Lists p w x → length x ≡ size p
  lists-size h = ap length (lists-one h written-lists) ∙ length-written

  -- ---- writing them
  module _ (d : List ℕ) (room : size p ≤ length d) where
    pub counts-room : {c : List ℕ} → c ≡ counts_of p → length c ≤ length d
    unfolding size
    counts-room e = omega (arith, ap length e, length-counts p)

    pub counts-begin : {c l : List ℕ} → c ≡ counts_of p → l ≡ c ++ drop (length c) d → Begins (counts_of p) d l nodes
    unfolding size
    counts-begin ec e = begins (record { count = sym (length-counts p); is = e ∙ rw (ec, length-counts p) }) (omega (arith, length-counts p))

    pub whole-fits : length (all_words p w) ≤ length d
    whole-fits = omega (arith, length-written)

  module _ {m : ℕ} {o : List ℕ} (em : m ≡ messages p) (h : Ordered p w (messages p) o) where
    pub order_is : take m o ≡ order p w
    order_is = rw em h.front

    pub whole_is : all_words p w ≡ counts_of p ++ lists_from p w (take m o)
    whole_is = ap (λ (t : List ℕ). counts_of p ++ lists_from p w t) (sym order_is)

  -- ---- what is answered, where t is how many triggers there are together
  module _ (d : List ℕ) {t : ℕ} (et : t ≡ sum nodes (triggers p)) where
    tested : room_fault (size p) (length d) ≡ guard (ltb (length d) (nodes + entry_words * t)) Room
    unfolding size
    tested = rw et refl

    pub room-refused : (r : Answer) {q : Refusal} → Err q ≡ guard (ltb (length d) (nodes + entry_words * t)) Room → IsErrAnd r (λ u. u ≡ q) → ListingAccepted p w d d r
    room-refused r {q} h e = rw (handed e) (lists-refused q (tested ∙ sym h))

    module _ (h : Ok tt ≡ guard (ltb (length d) (nodes + entry_words * t)) Room) where
      pub room-there : size p ≤ length d
      unfolding size
      room-there = omega (arith, ltb-false _ _ (clear-guard _ _ (sym h)))

      pub room-listed : {e : List ℕ} {r : ℕ} → Put (all_words p w) d e r → ListingAccepted p w d e (Ok r)
      room-listed put = record { lists = all_words p w; lists-are = λ _. written-lists; answers = answers-done (tested ∙ sym h) (sym put.count) put.is }
