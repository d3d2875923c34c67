-- What is due is determined: one list, and so one row of words.
use Rattle.std.proofs.Common.{ℕ, ◌≡◌, sym, ap, ◌∙◌, List, arith}
use Rattle.basics.proofs.Rising.{in-order-one}
use Rattle.bus_log.specs.Span.{Occurrence, DueList, pairs, IsDue}

pub list-one : {p w : List ℕ} {span : ℕ} {l m : List Occurrence} → DueList p w span l → DueList p w span m → l ≡ m
list-one a b = in-order-one (λ x y h g. omega arith) a b

pub due-one : {p w x y : List ℕ} {span : ℕ} → IsDue p w span x → IsDue p w span y → x ≡ y
due-one {p} {w} a b = a.words ∙ ap (pairs p w) (list-one a.list-is b.list-is) ∙ sym b.words
