-- The closure's test of the numbers below j is the rule's, and `any` over a range is `some` over its length.
use Rattle.std.proofs.Common.{ℕ, zero, suc, ◌+◌, ◌≡◌, refl, ap, ◌∙◌, Bool, true, false, ◌||◌, eqb, arith, rules, tests}
use Rattle.std.specs.List.{list_any, range_with_len}
use Rattle.std.proofs.lemmas.Iterator.{YieldsList-from_range}
use Rattle.std.proofs.lemmas.Iterator.Search.{any_from_yields_List}
use Rattle.basics.specs.Tests.{some}
use Rattle.response.specs.Events.{identifier, repeated}
use Rattle.response.proofs.events.is_repeated.Goals as goal

or-later : (a b c : Bool) → a || (b || c) ≡ (a || b) || c
or-later true b c = refl
or-later false b c = refl

or-none : (a : Bool) → a || false ≡ a
or-none true = refl
or-none false = refl

any-more : (t : ℕ → Bool) (n a : ℕ) → list_any t (range_with_len a (suc n)) ≡ list_any t (range_with_len a n) || t (a + n)
any-more t zero a = or-none (t a) ∙ ap t (omega arith)
any-more t (suc n) a =
    ap (λ (b : Bool). t a || b) (any-more t n (a + 1) ∙ ap (λ (k : ℕ). list_any t (range_with_len (a + 1) n) || t k) (omega arith))
    ∙ or-later (t a) (list_any t (range_with_len (a + 1) n)) (t (a + suc n))

any-some : (t : ℕ → Bool) (n : ℕ) → list_any t (range_with_len 0 n) ≡ some n t
unfolding some
any-some t zero = refl
any-some t (suc n) = any-more t n 0 ∙ ap (λ (b : Bool). b || t (0 + n)) (any-some t n) ∙ ap (λ (k : ℕ). some n t || t k) (omega arith)

pub returns : goal.returns
unfolding repeated
returns c =
    let same : ℕ → Bool = λ i. eqb (identifier c.args.events.now i) (identifier c.args.events.now c.args.j) in
    any_from_yields_List same _ _ c.any.result c.any.ensures.ran (YieldsList-from_range 0 c.args.j c.args.j refl (omega arith)) (λ x b q k. search (rules, tests))
    ∙ any-some same c.args.j
