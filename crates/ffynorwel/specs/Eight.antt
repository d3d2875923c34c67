-- The eight words in which an answer is handed to a caller in another language.
use Rattle.std.specs.Prelude.{ℕ, List, [], ◌∷◌, Option, Some, None, Result, Ok, Err}
use Rattle.rules.specs.declared.Paper.{Paper}
use Rattle.rules.specs.declared.Refusal.{Refusal}
use Rattle.rules.specs.Paper.{done, refused, paper, Answer, count_of}
use Rattle.losses.specs.declared.BusTime.{BusTime}
use Rattle.judge.specs.Answer.{figures}
use Rattle.bus_log.specs.declared.Difference.{Difference}

-- number, place, second place and five figures
abbrev pub eight : Paper → List ℕ → List ℕ
eight p figures = p.number ∷ p.place ∷ p.second ∷ figures

-- one figure, and four that are 0
abbrev pub counted : Paper → ℕ → List ℕ
counted p n = eight p (n ∷ 0 ∷ 0 ∷ 0 ∷ 0 ∷ [])

-- ---- the figures of each call: how much was written, or the misses; the five losses; how a log differs; 0 where there are fewer
abbrev pub count_words : Answer → List ℕ
count_words r = counted (paper r) (count_of r)

abbrev pub judged_words : Result BusTime Refusal → List ℕ
judged_words r = let t = figures r in eight (paper r) (t.reference ∷ t.used ∷ t.in_window ∷ t.empty ∷ t.gaps ∷ [])

abbrev pub held_words : Result (Option Difference) Refusal → List ℕ
held_words (Ok None) = eight done (0 ∷ 0 ∷ 0 ∷ 0 ∷ 0 ∷ [])
held_words (Ok (Some d)) = eight done (1 ∷ d.index ∷ d.time ∷ d.identifier ∷ 0 ∷ [])
held_words (Err q) = eight (refused q) (0 ∷ 0 ∷ 0 ∷ 0 ∷ 0 ∷ [])
