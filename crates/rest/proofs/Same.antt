-- Some messages as a problem of their own have the same matrix, and each the same words, repeat and tests as before.
use Rattle.std.proofs.Common.{ℕ, ◌+◌, ◌*◌, ◌-◌, ◌/◌, ◌%◌, ◌<◌, min, ◌≡◌, sym, ap, ap₂, ◌∙◌, List, arith, get_or, Ok}
use Rattle.rules.specs.Problem.{rows, cycle, columns, column_at, message_at, start, field, frame, lasts, repeat, column, row}
use Rattle.rules.specs.Tests.{wait, common, own_fault}
use Rattle.rules.proofs.Meaning.{own_alone, alone-own, Meets}
use Rattle.rest.specs.Part.{count_at, message_words, Part}

-- a wait by the words that it goes by
wait_by : (r : ℕ) {b b' s s' t t' o o' : ℕ} → b ≡ b' → s ≡ s' → t ≡ t' → o ≡ o' → (r * b + s + t - o) % t ≡ (r * b' + s' + t' - o') % t'
wait_by r e f g h = rw (e, f, g, h)

module _ {p m : List ℕ} {n : ℕ} {q : List ℕ} (P : Part p m n q) where
  -- word i of the header
  pub part-header : (i : ℕ) → i < count_at → get_or q i 0 ≡ get_or p i 0
  part-header i l = P.front i (omega arith) (λ e. omega arith)

  pub part-rows : rows q ≡ rows p
  part-rows = part-header 0 (omega arith)

  pub part-cycle : cycle q ≡ cycle p
  part-cycle = part-header 1 (omega arith)

  pub part-columns : columns q ≡ columns p
  part-columns = part-header 5 (omega arith)

  -- word i of column c
  pub part-column : (c i : ℕ) → c < columns p → i < 3 → get_or q (column_at c + i) 0 ≡ get_or p (column_at c + i) 0
  part-column c i l h = P.front (column_at c + i) (omega arith) (λ e. omega arith)

  pub part-start : (c : ℕ) → c < columns p → start q c ≡ start p c
  part-start c l = P.front (column_at c) (omega arith) (λ e. omega arith)

  pub part_field : (s f : ℕ) → s < n → f < message_words → field q s f ≡ field p (get_or m s 0) f
  part_field s f l h = ap (λ (k : ℕ). get_or q (message_at k s + f) 0) part-columns ∙ P.records s f l h

  pub part-repeat : (s : ℕ) → s < n → repeat q s ≡ repeat p (get_or m s 0)
  part-repeat s l = ap₂ ◌/◌ (part_field s 4 l (omega arith)) part-cycle

  pub part-common : (s t : ℕ) → s < n → t < n → common q s t ≡ common p (get_or m s 0) (get_or m t 0)
  unfolding common
  part-common s t l h = ap₂ min (part-repeat s l) (part-repeat t h)

  part-lasts : (s : ℕ) → s < n → lasts q s ≡ lasts p (get_or m s 0)
  part-lasts s l = ap frame (part_field s 2 l (omega arith))

  part-wait : (s c r : ℕ) → s < n → c < columns p → wait q s c r ≡ wait p (get_or m s 0) c r
  unfolding wait
  part-wait s c r l h =
      wait_by r part-cycle (part-start c h) (part_field s 4 l (omega arith)) (part_field s 5 l (omega arith))

  -- ---- a message by itself has no fault in the one exactly where it has none in the other
  module _ (s c r : ℕ) (l : s < n) where
    pub own-part : own_fault q s c r ≡ Ok tt → own_fault p (get_or m s 0) c r ≡ Ok tt
    own-part e =
        let a = own_alone q s c r e in
        let h : c < columns p = omega (arith, a.placed.column-below, part-columns) in
        alone-own p (get_or m s 0) c r record {
          placed = record { column-below = h; row_below = omega (arith, a.placed.row_below, part-repeat s l) };
          fits = omega (arith, a.fits, part-lasts s l, part-column c 1 h (omega arith));
          timely = omega (arith, a.timely, part-wait s c r l h, part-lasts s l, part_field s 6 l (omega arith));
        }

    pub part-own : own_fault p (get_or m s 0) c r ≡ Ok tt → own_fault q s c r ≡ Ok tt
    part-own e =
        let a = own_alone p (get_or m s 0) c r e in
        let h = a.placed.column-below in
        alone-own q s c r record {
          placed = record {
            column-below = omega (arith, h, part-columns);
            row_below = omega (arith, a.placed.row_below, part-repeat s l);
          };
          fits = omega (arith, a.fits, part-lasts s l, part-column c 1 h (omega arith));
          timely = omega (arith, a.timely, part-wait s c r l h, part-lasts s l, part_field s 6 l (omega arith));
        }

  -- ---- two messages meet in the one exactly where they meet in the other, where the one proposal has them as the other has their slots
  module _ {w v : List ℕ} {s t : ℕ} (ls : s < n) (lt : t < n)
      (cs : column w (get_or m s 0) ≡ column v s) (rs : row w (get_or m s 0) ≡ row v s)
      (ct : column w (get_or m t 0) ≡ column v t) (rt : row w (get_or m t 0) ≡ row v t) where
    pub meets-part : Meets q v s t → Meets p w (get_or m s 0) (get_or m t 0)
    meets-part h = record {
      one-column = cs ∙ h.one-column ∙ sym ct;
      rows_agree = ap₂ ◌%◌ rs (sym (part-common s t ls lt)) ∙ h.rows_agree ∙ ap₂ ◌%◌ (sym rt) (part-common s t ls lt);
    }

    pub part_meets : Meets p w (get_or m s 0) (get_or m t 0) → Meets q v s t
    part_meets h = record {
      one-column = sym cs ∙ h.one-column ∙ ct;
      rows_agree = ap₂ ◌%◌ (sym rs) (part-common s t ls lt) ∙ h.rows_agree ∙ ap₂ ◌%◌ rt (sym (part-common s t ls lt));
    }
