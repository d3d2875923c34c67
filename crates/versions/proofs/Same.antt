-- Any two files that read as one problem, of whatever versions, get the same answer from every call.
use Prim.Native.Nat.{ℕ}
use mathlib.Core.Path.{◌≡◌}
use mathlib.Core.List.{List}
use Rattle.std.specs.Prelude.{Result}
use Rattle.rules.specs.declared.Refusal.{Refusal}
use Rattle.rules.specs.Paper.{Answer}
use Rattle.problem.specs.Wrong.{Reads}
use Rattle.losses.specs.declared.BusTime.{BusTime}
use Rattle.judge.specs.Promise.{Judging}
use Rattle.judge.proofs.Promise.{judging-one}
use Rattle.triggers.specs.Promise.{Listing}
use Rattle.triggers.proofs.Results.{listing-one}
use Rattle.bus_log.specs.Against.{Held}
use Rattle.bus_log.specs.Promise.{Holding, DueWritten}
use Rattle.bus_log.proofs.HeldLog.{holding-one}
use Rattle.bus_log.proofs.Results.{due-written-one}
use Rattle.planner.specs.Promise.{Planning, Replanning}
use Rattle.planner.proofs.Unique.{planning-one, replanning-one}

-- a promise made for g is one made for f: it goes by what is wrong with the file, which is nothing, and by its words
module _ {f g p : List ℕ} (a : Reads f p) (b : Reads g p) where
  judged : {w : List ℕ} {r : Result BusTime Refusal} → Judging g w r → Judging f w r
  judged h = record {
    paper-is = rw (a.clear, a.words) (rw (b.clear, b.words) at h.paper-is);
    exactly = λ q r. h.exactly q record { clear = b.clear; words = rw (b.words, ← a.words) r.words };
    figures-are = rw (a.clear, a.words) (rw (b.clear, b.words) at h.figures-are);
  }

  listed : {w d e : List ℕ} {r : Answer} → Listing g w d e r → Listing f w d e r
  listed h = rw (a.clear, a.words) (rw (b.clear, b.words) at h)

  held : {w log : List ℕ} {span : ℕ} {r : Held} → Holding g w log span r → Holding f w log span r
  held h = rw (a.clear, a.words) (rw (b.clear, b.words) at h)

  due : {w d e : List ℕ} {span : ℕ} {r : Answer} → DueWritten g w span d e r → DueWritten f w span d e r
  due h = rw (a.clear, a.words) (rw (b.clear, b.words) at h)

  planned : {d e : List ℕ} {r : Answer} → Planning g d e r → Planning f d e r
  planned h = record { answered = rw (a.clear, a.words) (rw (b.clear, b.words) at h.answered) }

  replanned : {k d e : List ℕ} {r : Answer} → Replanning g k d e r → Replanning f k d e r
  replanned h = record { answered = rw (a.clear, a.words) (rw (b.clear, b.words) at h.answered) }

  -- the theorem, call by call
  pub judge-same : {w : List ℕ} {r s : Result BusTime Refusal} → Judging f w r → Judging g w s → r ≡ s
  judge-same h k = judging-one h (judged k)

  pub lists-same : (w d : List ℕ) {e x : List ℕ} {r s : Answer} → Listing f w d e r → Listing g w d x s → (r ≡ s) × (e ≡ x)
  lists-same w d h k = listing-one f w d h (listed k)

  pub hold-same : (w log : List ℕ) (span : ℕ) {r s : Held} → Holding f w log span r → Holding g w log span s → r ≡ s
  hold-same w log span h k = holding-one f w log span h (held k)

  pub due-same : (w : List ℕ) (span : ℕ) (d : List ℕ) {e x : List ℕ} {r s : Answer} → DueWritten f w span d e r → DueWritten g w span d x s → (r ≡ s) × (e ≡ x)
  due-same w span d h k = due-written-one f w span d h (due k)

  pub plan-same : {d e x : List ℕ} {r s : Answer} → Planning f d e r → Planning g d x s → (r ≡ s) × (e ≡ x)
  plan-same h k = planning-one h (planned k)

  pub replan-same : {k d e x : List ℕ} {r s : Answer} → Replanning f k d e r → Replanning g k d x s → (r ≡ s) × (e ≡ x)
  replan-same h q = replanning-one h (replanned q)
