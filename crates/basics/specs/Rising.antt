-- Lists given by what they hold and how they rise.
use mathlib.Core.List.{List, [], ◌∷◌, Memᴰ}

-- every element stands in the relation to all behind it
pub data Rising {A : Type 0} (R : A → A → Type 0) : List A → Type 0 where
  none : Rising R []
  next : {x : A} {l : List A} → ((y : A) → Memᴰ y l → R x y) → Rising R l → Rising R (x ∷ l)

-- l holds exactly what P is true of, and rises by R
pub record InOrder {A : Type 0} (P : A → Type 0) (R : A → A → Type 0) (l : List A) : Type 0 where
  pub only : (x : A) → Memᴰ x l → P x
  pub all : (x : A) → P x → Memᴰ x l
  pub rising : Rising R l
