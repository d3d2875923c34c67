-- The list of a node is determined by its rule, and so are the words of all lists.
use Prim.Native.Nat.{ℕ, ◌<◌}
use mathlib.Core.Path.{◌≡◌, sym, ap, ap₂, ◌∙◌}
use mathlib.Core.List.{List, [], ◌∷◌, ◌++◌}
use native.Mathlib.Omega.{arith}
use lib.ListN.{length}
use Rattle.basics.proofs.Rising.{in-order-one}
use Rattle.basics.proofs.Runs.{run-same}
use Rattle.rules.specs.Problem.{nodes}
use Rattle.rules.specs.Sends.{Source}
use Rattle.triggers.specs.Lists.{Before, by-mark, by_row, ListOf, entries, Lists}

not-both-ways : (p w : List ℕ) (s t : Source) → Before p w s t → Before p w t s → ⊥
not-both-ways p w s t (by-mark a) (by-mark b) = omega arith
not-both-ways p w s t (by-mark a) (by_row b c) = omega arith
not-both-ways p w s t (by_row a c) (by-mark b) = omega arith
not-both-ways p w s t (by_row a c) (by_row b d) = omega arith

pub list-one : {p w : List ℕ} (n : ℕ) {l m : List Source} → ListOf p w n l → ListOf p w n m → l ≡ m
list-one {p} {w} n a b = in-order-one (not-both-ways p w) a b

pub lists-one : {p w x y : List ℕ} → Lists p w x → Lists p w y → x ≡ y
lists-one {p} {w} a b =
    let same : (n : ℕ) → n < nodes → a.list n ≡ b.list n = λ n l. list-one n (a.each n l) (b.each n l) in
    a.words
    ∙ ap₂ ◌++◌
    (run-same (λ n. length (a.list n) ∷ []) (λ n. length (b.list n) ∷ []) nodes (λ n l. ap (λ (t : List Source). length t ∷ []) (same n l)))
    (run-same (λ n. entries p w n (a.list n)) (λ n. entries p w n (b.list n)) nodes (λ n l. ap (entries p w n) (same n l)))
    ∙ sym b.words
