-- Some messages of a well-formed problem, as they rise, are a well-formed problem of their own.
use Rattle.std.proofs.Common.{ℕ, zero, suc, ◌+◌, ◌*◌, ◌^◌, ◌<◌, ◌≤◌, ◌≡◌, sym, ap, ap₂, ◌∙◌, true, List, ⊎_elim, eq-or-lt_of_le, arith, eqb, get_or}
use Rattle.basics.specs.Bits.{bit}
use Rattle.basics.specs.Sums.{sum, only}
use Rattle.basics.proofs.Sums.{sum_same, own-terms}
use Rattle.basics.proofs.Tests.{below_or}
use Rattle.rules.specs.Problem.{columns, messages, earliest, sends, receives, triggers, limit, words_for, nodes, Header, Column, Identity, Timing, WellFormed}
use Rattle.rest.specs.Free.{Free}
use Rattle.rest.specs.Part.{Part, Numbers}
use Rattle.rest.proofs.Same.{part-header, part-rows, part-cycle, part-columns, part-column, part-start, part_field}

-- the numbers of the messages without a kept placement are such
pub free-numbers : {k p m : List ℕ} {n : ℕ} → Free k (messages p) m n → Numbers p m n
free-numbers F = record { below = F.below; rising = F.rising }

module _ {p m : List ℕ} {n : ℕ} (N : Numbers p m n) where
  -- the terms of some messages are at most the terms of all
  pub sum-some : (f : ℕ → ℕ) → sum n (λ s. f (get_or m s 0)) ≤ sum (messages p) f
  sum-some f = own-terms n (messages p) f (λ s. true) (λ s. get_or m s 0)
      (λ s l e. N.below s l)
      (λ s t l h a b ne e. ⊎_elim
      (λ g. omega (arith, e, N.rising s t g h))
      (λ g. ⊎_elim (λ z. ne (sym z)) (λ k. omega (arith, e, N.rising t s k l)) (eq-or-lt_of_le g))
      (below_or s t))

  module _ {q : List ℕ} (wf : WellFormed p) (few : n ≤ 64) (P : Part p m n q) where
    header : Header q
    header = let h = wf.header in
        let cycle-same = part-cycle P in
        let reference-same = part-header P 2 (omega arith) in
        let limit-same = part-header P 4 (omega arith) in record {
          rows-power = h.rows-power;
          rows_is = part-rows P ∙ h.rows_is;
          rows-most = omega (arith, part-rows P, h.rows-most);
          cycle-least = omega (arith, h.cycle-least);
          cycle-most = omega (arith, h.cycle-most);
          reference-least = omega (arith, h.reference-least);
          reference-most = omega (arith, h.reference-most);
          reference-identifier = omega (arith, part-header P 3 (omega arith), h.reference-identifier);
          limit-least = omega (arith, h.limit-least);
          limit-most = omega (arith, h.limit-most);
          columns-least = omega (arith, part-columns P, h.columns-least);
          columns-most = omega (arith, part-columns P, h.columns-most);
          messages-most = omega (arith, P.count);
        }

    earliest-same : (c : ℕ) → c < columns p → earliest q c ≡ earliest p c
    unfolding earliest
    earliest-same zero l = part-header P 2 (omega arith)
    earliest-same (suc c) l = ap₂ ◌+◌ (part-start P c (omega arith)) (part-column P c 1 (omega arith) (omega arith))

    columns-formed : (c : ℕ) → c < columns p → Column q c
    columns-formed c l = let h = wf.column c l in
        let start-same = part-start P c l in
        let width_same = part-column P c 1 l (omega arith) in record {
          start-most = omega (arith, h.start-most);
          width-most = omega (arith, h.width-most);
          width-least = omega (arith, h.width-least);
          kind-most = omega (arith, part-column P c 2 l (omega arith), h.kind-most);
          ordered = omega (arith, earliest-same c l, h.ordered);
          last-ends = λ e. omega (arith, part-cycle P, h.last-ends (e ∙ part-columns P));
        }

    identity-formed : (s : ℕ) → s < n → Identity q s
    identity-formed s l = let h = wf.identity (get_or m s 0) (N.below s l) in
        let identifier-same = part_field P s 0 l (omega arith) in
        let sender-same = part_field P s 1 l (omega arith) in
        let receivers-same = part_field P s 3 l (omega arith) in record {
          identifier-most = omega (arith, h.identifier-most);
          unlike-reference = λ e. h.unlike-reference (sym identifier-same ∙ e ∙ part-header P 3 (omega arith));
          unlike-earlier = λ i g e. h.unlike-earlier (get_or m i 0) (N.rising i s g l) (sym (part_field P i 0 (omega arith) (omega arith)) ∙ e ∙ identifier-same);
          sender-most = omega (arith, h.sender-most);
          size-most = omega (arith, part_field P s 2 l (omega arith), h.size-most);
          receivers-most = omega (arith, h.receivers-most);
          not-to-itself = ap₂ bit receivers-same sender-same ∙ h.not-to-itself;
        }

    timing-formed : (s : ℕ) → s < n → Timing q s
    timing-formed s l = let h = wf.timing (get_or m s 0) (N.below s l) in
        let period-same = part_field P s 4 l (omega arith) in
        let deadline-same = part_field P s 6 l (omega arith) in record {
          power = h.power;
          period-is = period-same ∙ h.period-is ∙ ap (◌* 2 ^ h.power) (sym (part-cycle P));
          repeat-fits = omega (arith, part-rows P, h.repeat-fits);
          offset-below = omega (arith, part_field P s 5 l (omega arith), h.offset-below);
          deadline-least = omega (arith, h.deadline-least);
          deadline-most = omega (arith, h.deadline-most);
        }

    -- what message s adds to the triggers of node k
    terms-same : (k s : ℕ) → s < n
        → only (sends q k s) 1 + only (receives q k s) 1 ≡ only (sends p k (get_or m s 0)) 1 + only (receives p k (get_or m s 0)) 1
    terms-same k s l =
        let f : ℕ → ℕ → ℕ = λ x y. only (eqb x k) 1 + only (eqb (bit y k) 1) 1 in
        ap₂ f (part_field P s 1 l (omega arith)) (part_field P s 3 l (omega arith))

    triggers-formed : (k : ℕ) → k < nodes → triggers q k ≤ limit q
    unfolding triggers
    triggers-formed k l =
        let f : ℕ → ℕ = λ j. only (sends p k j) 1 + only (receives p k j) 1 in
        let g : ℕ → ℕ = λ s. only (sends q k s) 1 + only (receives q k s) 1 in
        let same = sum_same n g (λ s. f (get_or m s 0)) (terms-same k) in
        let all : sum (messages q) g ≡ sum n g = ap (λ (x : ℕ). sum x g) P.count in
        omega (arith, all, same, sum-some f, wf.triggers-most k l, part-header P 4 (omega arith))

    pub part-formed : WellFormed q
    part-formed = record {
      header = header;
      words = P.long ∙ ap₂ words_for (sym (part-columns P)) (sym P.count);
      column = λ c l. columns-formed c (omega (arith, part-columns P));
      identity = λ s l. identity-formed s (omega (arith, P.count));
      timing = λ s l. timing-formed s (omega (arith, P.count));
      triggers-most = triggers-formed;
    }
