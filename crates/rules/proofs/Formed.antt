-- The rules of a problem, tested and stated: a test finds nothing exactly where its rule is kept, and all of them exactly where the problem is well-formed.
use Prim.Native.Nat.{ℕ, zero, suc, ◌+◌, ◌*◌, ◌^◌, ◌≤◌, ◌<◌}
use mathlib.Core.Path.{◌≡◌, refl}
use mathlib.Core.Bool.{Bool, true, false, ◌&&◌, not}
use mathlib.Core.List.{List}
use mathlib.Core.Logic.{◌↔◌}
use native.Mathlib.Decide.{dec_lt}
use native.Mathlib.Omega.{arith}
use lib.Dec.{T, leb, ltb, eqb, eqb→eq}
use lib.ListN.{length}
use lib.Pow.{pow_mono}
use borrow.Author.Tests.{ltb-false, leb-true, leb-false, eqb-true, eqb-false, le-ltb, le-leb, lt-leb, eq-eqb, ne_eqb, not-false}
use Rattle.basics.specs.Bits.{bit}
use Rattle.basics.specs.Tests.{outside, some}
use Rattle.basics.proofs.Bits.{bit-two}
use Rattle.basics.proofs.Tests.{left, right, within, inside, or-false, and-true, either, some_at, some-on, some-off, some-none}
use Rattle.rules.specs.Problem.{rows, cycle, ref_len, ref_id, limit, columns, messages, start, width, kind, identifier, sender, size, receivers, period, offset, deadline, word_count, earliest, nodes, triggers, Header, Column, Identity, Timing, WellFormed}
use Rattle.rules.specs.declared.Refusal.TheVariants.{Header as BadHeader, Identity as BadIdentity}
use Rattle.rules.specs.Refusal.{is_clear, guard, first_fault}
use Rattle.rules.specs.Rules.{is_row_count, header_fault, column_wrong, repeated, identity_wrong, on_grid, timing_wrong, overloaded, column_fault, message_fault, node_fault, words_fault}
use Rattle.rules.proofs.Faults.{clear-is, clear-guard, clear_both, clear-test, clear_first, first-clear}
use Rattle.std.specs.Prelude.{Ok}

positive : {n : ℕ} → (n ≡ 0 → ⊥) → 1 ≤ n
positive h = omega arith

-- ---- the rows
pub power-of-rows : (r : ℕ) → is_row_count r ≡ true → (k : ℕ) × (k < 7) × (r ≡ 2 ^ k)
power-of-rows r =
    let is : (k : ℕ) → k < 7 → eqb r (2 ^ k) ≡ true → (k : ℕ) × (k < 7) × (r ≡ 2 ^ k) = λ k l e. (k, l, eqb-true r (2 ^ k) e) in
    either _ (eqb r 64)
    (either _ (eqb r 32)
    (either _ (eqb r 16)
    (either _ (eqb r 8)
    (either _ (eqb r 4)
    (either (eqb r 1) (eqb r 2) (is 0 (omega arith)) (is 1 (omega arith)))
    (is 2 (omega arith)))
    (is 3 (omega arith)))
    (is 4 (omega arith)))
    (is 5 (omega arith)))
    (is 6 (omega arith))

-- an exponent below 7 is that of a row count up to 64
small_power : (k : ℕ) → 2 ^ k ≤ 64 → k < 7
small_power k h = elim (dec_lt k 7) [ yes g ↦ g | no g ↦ absurd (omega (arith, pow_mono {i = 7} {j = k} (omega arith))) ]

rows-of-power : (k : ℕ) → k < 7 → is_row_count (2 ^ k) ≡ true
rows-of-power zero l = refl
rows-of-power (suc zero) l = refl
rows-of-power (suc (suc zero)) l = refl
rows-of-power (suc (suc (suc zero))) l = refl
rows-of-power (suc (suc (suc (suc zero)))) l = refl
rows-of-power (suc (suc (suc (suc (suc zero))))) l = refl
rows-of-power (suc (suc (suc (suc (suc (suc zero)))))) l = refl
rows-of-power (suc (suc (suc (suc (suc (suc (suc k))))))) l = absurd (omega arith)

module _ (p : List ℕ) where
  -- ---- the header
  pub header-kept : (header_fault p ≡ Ok tt) ↔ Header p
  unfolding header_fault
  header-kept = (stated, tested)
    where
      stated : header_fault p ≡ Ok tt → Header p
      stated e =
          let b = clear_both (guard (not (is_row_count (rows p))) (BadHeader _)) _ e in
          let f = clear_both (guard (outside (cycle p) 1 65535) (BadHeader _)) _ b.1 in
          let i = clear_both (guard (outside (ref_len p) 65 (cycle p)) (BadHeader _)) _ f.1 in
          let l = clear_both (guard (ltb 2047 (ref_id p)) (BadHeader _)) _ i.1 in
          let k = clear_both (guard (outside (limit p) 1 32) (BadHeader _)) _ l.1 in
          let m = clear_both (guard (outside (columns p) 1 32) (BadHeader _)) _ k.1 in
          let cycles = within (cycle p) 1 65535 (clear-guard _ _ f.0) in
          let references = within (ref_len p) 65 (cycle p) (clear-guard _ _ i.0) in
          let limits = within (limit p) 1 32 (clear-guard _ _ k.0) in
          let column-counts = within (columns p) 1 32 (clear-guard _ _ m.0) in
          let r = power-of-rows (rows p) (clear-test _ _ b.0) in
          record {
            rows-power = r.0;
            rows_is = r.2;
            rows-most = omega (arith, r.2, pow_mono {i = r.0} {j = 6} (omega (arith, r.1)));
            cycle-least = cycles.0;
            cycle-most = cycles.1;
            reference-least = references.0;
            reference-most = references.1;
            reference-identifier = ltb-false _ _ (clear-guard _ _ l.0);
            limit-least = limits.0;
            limit-most = limits.1;
            columns-least = column-counts.0;
            columns-most = column-counts.1;
            messages-most = ltb-false _ _ (clear-guard _ _ m.1);
          }

      tested : Header p → header_fault p ≡ Ok tt
      tested h =
          let r : is_row_count (rows p) ≡ true = rw h.rows_is (rows-of-power h.rows-power (small_power h.rows-power (omega (arith, h.rows_is, h.rows-most)))) in
          rw (
            r,
            inside (cycle p) 1 65535 h.cycle-least h.cycle-most,
            inside (ref_len p) 65 (cycle p) h.reference-least h.reference-most,
            le-ltb 2047 (ref_id p) h.reference-identifier,
            inside (limit p) 1 32 h.limit-least h.limit-most,
            inside (columns p) 1 32 h.columns-least h.columns-most,
            le-ltb 64 (messages p) h.messages-most,
          )

  -- ---- a column
  pub column-kept : (c : ℕ) → (column_wrong p c ≡ false) ↔ Column p c
  unfolding column_wrong
  column-kept c = (stated, tested)
    where
      stated : column_wrong p c ≡ false → Column p c
      stated e =
          let d = or-false _ (eqb (suc c) (columns p) && ltb (cycle p) (start p c + width p c)) e in
          let o = or-false _ (ltb (start p c) (earliest p c)) d.0 in
          let k = or-false _ (ltb 0 (kind p c)) o.0 in
          let z = or-false _ (eqb (width p c) 0) k.0 in
          let w = or-false (ltb 65535 (start p c)) (ltb 65535 (width p c)) z.0 in
          record {
            start-most = ltb-false _ _ w.0;
            width-most = ltb-false _ _ w.1;
            width-least = positive (eqb-false _ _ z.1);
            kind-most = ltb-false _ _ k.1;
            ordered = ltb-false _ _ o.1;
            last-ends = λ q. ltb-false _ _ (rw (eq-eqb (suc c) (columns p) q) at d.1);
          }

      end : Column p c → (b : Bool) → eqb (suc c) (columns p) ≡ b → (b && ltb (cycle p) (start p c + width p c)) ≡ false
      end h true e = le-ltb _ _ (h.last-ends (eqb-true _ _ e))
      end h false e = refl

      tested : Column p c → column_wrong p c ≡ false
      tested h =
          rw (
            le-ltb 65535 (start p c) h.start-most,
            le-ltb 65535 (width p c) h.width-most,
            ne_eqb (width p c) 0 (λ q. omega (arith, h.width-least)),
            le-ltb 0 (kind p c) h.kind-most,
            le-ltb (start p c) (earliest p c) h.ordered,
            end h (eqb (suc c) (columns p)) refl,
          )

  -- ---- a message's identity
  pub identity-kept : (j : ℕ) → (identity_wrong p j ≡ false) ↔ Identity p j
  unfolding identity_wrong repeated
  identity-kept j = (stated, tested)
    where
      stated : identity_wrong p j ≡ false → Identity p j
      stated e =
          let u = or-false _ (some j (λ i. eqb (identifier p i) (identifier p j))) e in
          let o = or-false _ (eqb (bit (receivers p j) (sender p j)) 1) u.0 in
          let m = or-false _ (ltb 65535 (receivers p j)) o.0 in
          let s = or-false _ (ltb 8 (size p j)) m.0 in
          let n = or-false _ (ltb 15 (sender p j)) s.0 in
          let r = or-false (ltb 2047 (identifier p j)) (eqb (identifier p j) (ref_id p)) n.0 in
          let b : ¬ (bit (receivers p j) (sender p j) ≡ 1) = eqb-false _ _ o.1 in
          record {
            identifier-most = ltb-false _ _ r.0;
            unlike-reference = eqb-false _ _ r.1;
            unlike-earlier = λ i l. eqb-false _ _ (some-none j (λ i. eqb (identifier p i) (identifier p j)) u.1 i l);
            sender-most = ltb-false _ _ n.1;
            size-most = ltb-false _ _ s.1;
            receivers-most = ltb-false _ _ m.1;
            not-to-itself = omega (arith, bit-two (receivers p j) (sender p j));
          }

      tested : Identity p j → identity_wrong p j ≡ false
      tested h =
          rw (
            le-ltb 2047 (identifier p j) h.identifier-most,
            ne_eqb (identifier p j) (ref_id p) h.unlike-reference,
            le-ltb 15 (sender p j) h.sender-most,
            le-ltb 8 (size p j) h.size-most,
            le-ltb 65535 (receivers p j) h.receivers-most,
            ne_eqb (bit (receivers p j) (sender p j)) 1 (λ q. omega (arith, h.not-to-itself)),
            some-off j (λ i. eqb (identifier p i) (identifier p j)) (λ i l. ne_eqb _ _ (h.unlike-earlier i l)),
          )

  -- ---- a message's times
  grid : (j k : ℕ) → Bool
  grid j k = leb (2 ^ k) (rows p) && eqb (period p j) (cycle p * 2 ^ k)

  pub timing-kept : Header p → (j : ℕ) → (timing_wrong p j ≡ false) ↔ Timing p j
  unfolding timing_wrong on_grid grid
  timing-kept header j = (stated, tested)
    where
      stated : timing_wrong p j ≡ false → Timing p j
      stated e =
          let d = or-false _ (ltb (period p j) (deadline p j)) e in
          let z = or-false _ (eqb (deadline p j) 0) d.0 in
          let o = or-false (not (some 7 (grid j))) (leb (period p j) (offset p j)) z.0 in
          let k = some_at 7 (grid j) (not-false _ o.0) in
          let g = and-true (leb (2 ^ k.0) (rows p)) (eqb (period p j) (cycle p * 2 ^ k.0)) k.2 in
          record {
            power = k.0;
            period-is = eqb-true _ _ g.1;
            repeat-fits = leb-true _ _ g.0;
            offset-below = leb-false _ _ o.1;
            deadline-least = positive (eqb-false _ _ z.1);
            deadline-most = ltb-false _ _ d.1;
          }

      on : Timing p j → some 7 (grid j) ≡ true
      on h =
          some-on 7 h.power (grid j) (small_power h.power (omega (arith, h.repeat-fits, header.rows-most)))
          (rw (le-leb (2 ^ h.power) (rows p) h.repeat-fits, eq-eqb (period p j) (cycle p * 2 ^ h.power) h.period-is))

      tested : Timing p j → timing_wrong p j ≡ false
      tested h =
          rw (
            on h,
            lt-leb (period p j) (offset p j) h.offset-below,
            ne_eqb (deadline p j) 0 (λ q. omega (arith, h.deadline-least)),
            le-ltb (period p j) (deadline p j) h.deadline-most,
          )

  -- ---- a node's triggers
  pub triggers-kept : (n : ℕ) → (overloaded p n ≡ false) ↔ (triggers p n ≤ limit p)
  unfolding overloaded
  triggers-kept n = (λ e. ltb-false _ _ e, λ h. le-ltb (limit p) (triggers p n) h)

  -- ---- and all of them
  message-parts : (j : ℕ) → message_fault p j ≡ Ok tt → (identity_wrong p j ≡ false) × (timing_wrong p j ≡ false)
  message-parts j e = let a = clear_both (guard (identity_wrong p j) (BadIdentity j)) _ e in (clear-guard _ _ a.0, clear-guard _ _ a.1)

  pub words-formed : Header p → length p ≡ word_count p → words_fault p ≡ Ok tt → WellFormed p
  unfolding words_fault
  words-formed h w e =
      let a = clear_both (first_fault (columns p) (column_fault p)) _ e in
      let b = clear_both (first_fault (messages p) (message_fault p)) _ a.1 in
      record {
        header = h;
        words = w;
        column = λ c l. (column-kept c).0 (clear-guard _ _ (clear_first _ _ a.0 c l));
        identity = λ j l. (identity-kept j).0 (message-parts j (clear_first _ _ b.0 j l)).0;
        timing = λ j l. (timing-kept h j).0 (message-parts j (clear_first _ _ b.0 j l)).1;
        triggers-most = λ n l. (triggers-kept n).0 (clear-guard _ _ (clear_first _ _ b.1 n l));
      }

  pub formed-words : WellFormed p → words_fault p ≡ Ok tt
  unfolding words_fault
  formed-words f =
      let a : first_fault (columns p) (column_fault p) ≡ Ok tt = first-clear _ _ λ c l. rw ((column-kept c).1 (f.column c l)) in
      let b : first_fault (messages p) (message_fault p) ≡ Ok tt =
      first-clear _ _ λ j l. rw ((identity-kept j).1 (f.identity j l), (timing-kept f.header j).1 (f.timing j l)) in
      let d : first_fault nodes (node_fault p) ≡ Ok tt = first-clear _ _ λ n l. rw ((triggers-kept n).1 (f.triggers-most n l)) in
      rw (a, b, d)

  -- ---- computed, as one test
  unfoldable pub is_formed : Bool
  is_formed = is_clear (header_fault p) && (eqb (length p) (word_count p) && is_clear (words_fault p))

  pub is-formed : T is_formed → WellFormed p
  unfolding is_formed
  is-formed t =
      let rest = right (is_clear (header_fault p)) (eqb (length p) (word_count p) && is_clear (words_fault p)) t in
      words-formed (header-kept.0 (clear-is (header_fault p) (left (is_clear (header_fault p)) _ t)))
      (eqb→eq _ _ (left (eqb (length p) (word_count p)) (is_clear (words_fault p)) rest)) (clear-is (words_fault p) (right (eqb (length p) (word_count p)) (is_clear (words_fault p)) rest))
