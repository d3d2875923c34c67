-- What a message has at a place where no fault was found.
use Prim.Native.Nat.{ℕ, ◌-◌}
use mathlib.Core.Path.{◌≡◌, refl, sym, ◌∙◌}
use mathlib.Core.Bool.{Bool, false}
use mathlib.Core.List.{List}
use native.Mathlib.Omega.{arith}
use Rattle.std.specs.Prelude.{Ok, Err}
use Rattle.std.specs.Result.{is_err}
use Rattle.rules.specs.Problem.{lasts, deadline}
use Rattle.rules.specs.Tests.{wait, own_fault}
use Rattle.rules.proofs.Meaning.{Alone, own_alone}
use Rattle.rules.specs.Refusal.{Fault}
use Rattle.margins.specs.Margins.{MarginAt}

no-error : (f : Fault) → is_err f ≡ false → f ≡ Ok tt
no-error (Ok tt) h = refl
no-error (Err q) h = absurd (cc)

module _ {p : List ℕ} {j c r : ℕ} {f : Fault} (e : f ≡ own_fault p j c r) {b : Bool} (is : b ≡ is_err f) (none : b ≡ false) where
  pub alone : Alone p j c r
  alone = own_alone p j c r (sym e ∙ no-error f (sym is ∙ none))

  pub at_place : {t n d : ℕ} → t ≡ wait p j c r → n ≡ lasts p j → d ≡ deadline p j → MarginAt p j c r record { wait = t; frame = n; slack = d - t - n }
  at_place {t} {n} {d} et en ed = record {
    can = λ o. record { waits = et; takes = en; left = let a = alone in omega arith };
    cannot = λ o. absurd (o (sym e ∙ no-error f (sym is ∙ none)));
  }
