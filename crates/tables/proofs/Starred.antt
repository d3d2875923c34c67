-- The starred cases, proved together: one computed test over the table, and one law that turns it into the statement at each case.
use Prim.Native.Nat.{ℕ}
use mathlib.Core.Path.{◌≡◌, refl, sym, ap, ap₂}
use mathlib.Core.Bool.{Bool, true, false, ◌&&◌}
use mathlib.Core.List.Memᴰ
use mathlib.Core.List.{List, [], ◌∷◌, ◌++◌, Memᴰ}
use mathlib.Core.Logic.{⊎_elim}
use mathlib.Core.Option.{Option, some, none}
use native.Mathlib.Omega.{arith}
use lib.Dec.{T, eqb, eqb→eq}
use lib.ListN.{length, get_or, drop, replicate, length-replicate}
use Rattle.basics.specs.Bits.{bit}
use Rattle.basics.specs.Sums.{sum, largest}
use Rattle.basics.specs.Tests.{some as some_of}
use Rattle.basics.proofs.Tests.{left, right}
use Rattle.rules.specs.Problem.{earliest, triggers, frame, proposal_words}
use Rattle.rules.specs.Sends.{send_at}
use Rattle.rules.specs.Refusal.{is_clear, first_fault}
use Rattle.rules.specs.declared.Paper.{Paper}
use Rattle.rules.specs.Paper.{between, paper}
use Rattle.rules.specs.Rules.{header_fault, column_wrong, repeated, identity_wrong, on_grid, timing_wrong, overloaded, words_fault}
use Rattle.rules.specs.Tests.{in_range, fits, wait, timely, common, meets, own_fault, meeting_fault, fault, proposal_fault}
use Rattle.rules.proofs.Exact.{exact}
use Rattle.rules.proofs.Faults.{clear-is}
use Rattle.rules.proofs.Formed.{is_formed, is-formed}
use Rattle.problem.specs.declared.layout.Layout.TheVariants.{One}
use Rattle.problem.specs.Wrong.{held_fault}
use Rattle.planner.proofs.Seek.{run, run-least, run_none}
use Rattle.cells.specs.Cells.{starts_at, occupied}
use Rattle.losses.specs.Losses.{reference, used, window_loss, empty, in_column, covered, uncovered, gaps, FiguresAre}
use Rattle.losses.proofs.Five.{figures-sum}
use Rattle.response.specs.Promise.{zeros}
use Rattle.response.specs.Events.{count, repeated as repeated_event, event_wrong, events_fault}
use Rattle.response.proofs.Computed.{climb, span, worse, seek as seek_worst, worst, time, times, spans_fault, computed}
use Rattle.tables.specs.Cases.{Case, lasts, plans, plans-none, loses, accepts, refuses, unheld, responds, figures, Says}
use Rattle.tables.specs.Starred.{t1_with, t1, two, none as no_message, events, starred}
use Rattle.std.specs.Prelude.{Ok}

-- ---- tests
unfoldable same : List ℕ → List ℕ → Bool
same [] [] = true
same [] (y ∷ m) = false
same (x ∷ l) [] = false
same (x ∷ l) (y ∷ m) = eqb x y && same l m

same-is : (l m : List ℕ) → T (same l m) → l ≡ m
unfolding same
same-is [] [] t = refl
same-is [] (y ∷ m) t = absurd t
same-is (x ∷ l) [] t = absurd t
same-is (x ∷ l) (y ∷ m) t = ap₂ ◌∷◌ (eqb→eq x y (left (eqb x y) (same l m) t)) (same-is l m (right (eqb x y) (same l m) t))

-- a number and its places
abbrev places : Paper → List ℕ
places x = x.number ∷ x.place ∷ x.second ∷ []

abbrev is_at : Paper → ℕ → ℕ → ℕ → Bool
is_at x n j i = same (places x) (places (between n j i))

is-at : (x : Paper) (n j i : ℕ) → T (is_at x n j i) → x ≡ between n j i
is-at x n j i t =
    let e = same-is (places x) (places (between n j i)) t in
    ap (λ (l : List ℕ). between (get_or l 0 0) (get_or l 1 0) (get_or l 2 0)) e

abbrev is : Option (List ℕ) → List ℕ → Bool
is (some u) w = same u w
is none w = false

is_some : (o : Option (List ℕ)) (w : List ℕ) → T (is o w) → o ≡ some w
is_some (some u) w t = ap some (same-is u w t)
is_some none w t = absurd t

abbrev is_none : Option (List ℕ) → Bool
is_none (some u) = false
is_none none = true

none_is : (o : Option (List ℕ)) → T (is_none o) → o ≡ none
none_is (some u) t = absurd t
none_is none t = refl

-- ---- the test of a case, and the law
unfoldable holds : Case → Bool
holds (lasts s c) = eqb (frame s) c
holds (plans p w) = is_formed p && (eqb (length w) (proposal_words p) && is (run p) w)
holds (plans-none p) = is_formed p && is_none (run p)
holds (loses p w a b c d e) =
    is_formed p && (is_clear (proposal_fault p w) && (eqb (reference p) a && (eqb (used p w) b && (eqb (window_loss p w) c && (eqb (empty p w) d && eqb (gaps p) e)))))
holds (accepts p w) = is_formed p && is_clear (proposal_fault p w)
holds (refuses p w n j i) = is_formed p && is_at (paper (proposal_fault p w)) n j i
holds (unheld p n j) = is_at (paper (held_fault One p)) n j 0
holds (responds e t m) =
    is_clear (events_fault e) && (is_clear (spans_fault e) && (same (times e ++ drop (count e) (replicate (count e) 0)) t && eqb (zeros (times e) (count e)) m))

holds-says : (x : Case) → T (holds x) → Says x
unfolding holds
holds-says (lasts s c) t = eqb→eq _ _ t
holds-says (plans p w) t =
    let words : Bool = eqb (length w) (proposal_words p) in
    let wf = is-formed p (left (is_formed p) (words && is (run p) w) t) in
    let t₁ = right (is_formed p) (words && is (run p) w) t in
    (wf, run-least p w wf (is_some (run p) w (right words (is (run p) w) t₁)) (eqb→eq _ _ (left words (is (run p) w) t₁)))
holds-says (plans-none p) t =
    let wf = is-formed p (left (is_formed p) (is_none (run p)) t) in
    (wf, run_none p wf (none_is (run p) (right (is_formed p) (is_none (run p)) t)))
holds-says (loses p w a b c d e) t =
    let wf = is-formed p (left (is_formed p) _ t) in
    let t₁ = right (is_formed p) _ t in
    let t₂ = right (is_clear (proposal_fault p w)) _ t₁ in
    let t₃ = right (eqb (reference p) a) _ t₂ in
    let t₄ = right (eqb (used p w) b) _ t₃ in
    let t₅ = right (eqb (window_loss p w) c) _ t₄ in
    let fine = clear-is (proposal_fault p w) (left (is_clear (proposal_fault p w)) _ t₁) in
    let ea = eqb→eq (reference p) a (left (eqb (reference p) a) _ t₂) in
    let eb = eqb→eq (used p w) b (left (eqb (used p w) b) _ t₃) in
    let ec = eqb→eq (window_loss p w) c (left (eqb (window_loss p w) c) _ t₄) in
    let ed = eqb→eq (empty p w) d (left (eqb (empty p w) d) (eqb (gaps p) e) t₅) in
    let ee = eqb→eq (gaps p) e (right (eqb (empty p w) d) (eqb (gaps p) e) t₅) in
    let are : FiguresAre (Ok tt) p w (figures a b c d e) = record { reference-is = sym ea; used-is = sym eb; in-window-is = sym ec; empty-is = sym ed; gaps-is = sym ee } in
    (wf, are, figures-sum (record { formed = wf; faultless = fine }) are)
holds-says (accepts p w) t =
    let wf = is-formed p (left (is_formed p) (is_clear (proposal_fault p w)) t) in
    let a = (exact p w wf).0 (clear-is (proposal_fault p w) (right (is_formed p) (is_clear (proposal_fault p w)) t)) in
    (wf, a.0, a.1)
holds-says (refuses p w n j i) t =
    let x : Paper = paper (proposal_fault p w) in
    (is-formed p (left (is_formed p) (is_at x n j i) t), is-at x n j i (right (is_formed p) (is_at x n j i) t))
holds-says (unheld p n j) t = is-at (paper (held_fault One p)) n j 0 t
holds-says (responds e t m) h =
    let d : List ℕ = replicate (count e) 0 in
    let x : List ℕ = times e ++ drop (count e) d in
    let z : ℕ = zeros (times e) (count e) in
    let written : Bool = same x t && eqb z m in
    let h₁ = right (is_clear (events_fault e)) (is_clear (spans_fault e) && written) h in
    let h₂ = right (is_clear (spans_fault e)) written h₁ in
    computed e d (omega (arith, length-replicate {A = ℕ} (count e) 0))
    (clear-is (events_fault e) (left (is_clear (events_fault e)) (is_clear (spans_fault e) && written) h)) (clear-is (spans_fault e) (left (is_clear (spans_fault e)) written h₁))
    (same-is x t (left (same x t) (eqb z m) h₂)) (eqb→eq z m (right (same x t) (eqb z m) h₂))

-- ---- the table
unfoldable all_hold : List Case → Bool
all_hold [] = true
all_hold (x ∷ l) = holds x && all_hold l

each : (l : List Case) → T (all_hold l) → (x : Case) → Memᴰ x l → Says x
unfolding all_hold
each [] t x m = absurd (Memᴰ.not-nil m)
each (y ∷ l) t x m =
    ⊎_elim
    (λ e. rw e (holds-says y (left (holds y) (all_hold l) t)))
    (λ n. each l (right (holds y) (all_hold l) t) x n)
    (Memᴰ.cases_cons m)

table-holds : T (all_hold starred)
unfolding all_hold starred holds held_fault t1_with t1 two no_message events same is_formed header_fault words_fault column_wrong earliest identity_wrong repeated timing_wrong on_grid overloaded triggers some_of sum bit
    proposal_fault first_fault fault own_fault in_range fits wait timely meeting_fault meets common used send_at starts_at occupied window_loss empty in_column covered uncovered
    events_fault event_wrong repeated_event largest spans_fault climb span worse seek_worst worst time times
table-holds = tt

-- every starred case says what is true
pub starred-true : (x : Case) → Memᴰ x starred → Says x
starred-true = each starred table-holds
