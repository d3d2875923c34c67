-- Document 01's starred cases, as one table, and what of document 02 no call can show yet. Of the response times document 02 c) decides: all instances of the busy period count.
use Rattle.std.specs.Prelude.{ℕ, List, [], ◌∷◌}
use Rattle.tables.specs.Cases.{Case, lasts, plans, plans-none, loses, accepts, refuses, unheld, responds}

-- T1, with the deadline of message 32, the kind of column 1 and the identifier of the last message
unfoldable pub t1_with : ℕ → ℕ → ℕ → List ℕ
t1_with d k i =
    2 ∷ 400 ∷ 65 ∷ 1 ∷ 32 ∷ 3 ∷ 3 ∷ 65 ∷ 135 ∷ 0 ∷ 200 ∷ 100 ∷ k ∷ 300 ∷ 100 ∷ 0
    ∷ 16 ∷ 0 ∷ 8 ∷ 2 ∷ 400 ∷ 0 ∷ 400
    ∷ 32 ∷ 1 ∷ 1 ∷ 1 ∷ 800 ∷ 400 ∷ d
    ∷ i ∷ 1 ∷ 4 ∷ 1 ∷ 800 ∷ 0 ∷ 800 ∷ []

unfoldable pub t1 : ℕ → List ℕ
t1 d = t1_with d 0 48

-- T1's grid with two messages, both P 400, O 0, D 400: first 4 bytes, then 8 bytes
unfoldable pub two : List ℕ
two =
    2 ∷ 400 ∷ 65 ∷ 1 ∷ 32 ∷ 3 ∷ 2 ∷ 65 ∷ 135 ∷ 0 ∷ 200 ∷ 100 ∷ 0 ∷ 300 ∷ 100 ∷ 0
    ∷ 16 ∷ 0 ∷ 4 ∷ 2 ∷ 400 ∷ 0 ∷ 400
    ∷ 32 ∷ 0 ∷ 8 ∷ 2 ∷ 400 ∷ 0 ∷ 400 ∷ []

-- T1's grid with no message
unfoldable pub none : List ℕ
none = 2 ∷ 400 ∷ 65 ∷ 1 ∷ 32 ∷ 3 ∷ 0 ∷ 65 ∷ 135 ∷ 0 ∷ 200 ∷ 100 ∷ 0 ∷ 300 ∷ 100 ∷ 0 ∷ []

-- three events of 8 bytes, without jitter: (1, T 337, D 337), (2, T 475, D 475), (3, T 475, D d)
unfoldable pub events : ℕ → List ℕ
events d = 1 ∷ 8 ∷ 337 ∷ 0 ∷ 337 ∷ 2 ∷ 8 ∷ 475 ∷ 0 ∷ 475 ∷ 3 ∷ 8 ∷ 475 ∷ 0 ∷ d ∷ []

unfoldable pub starred : List Case
starred =
    lasts 0 55
    ∷ lasts 1 65
    ∷ lasts 8 135
    ∷ plans (t1 300) (0 ∷ 0 ∷ 1 ∷ 1 ∷ 1 ∷ 0 ∷ [])
    ∷ loses (t1 300) (0 ∷ 0 ∷ 1 ∷ 1 ∷ 1 ∷ 0 ∷ []) 130 430 40 200 0
    ∷ plans (t1 265) (0 ∷ 0 ∷ 1 ∷ 1 ∷ 1 ∷ 0 ∷ [])
    ∷ plans-none (t1 264)
    ∷ plans two (1 ∷ 0 ∷ 0 ∷ 0 ∷ [])
    ∷ accepts none []
    ∷ refuses (t1 300) (0 ∷ 0 ∷ 1 ∷ 1 ∷ 1 ∷ 1 ∷ []) 13 2 1
    ∷ unheld (t1_with 300 1 48) 20 1
    ∷ unheld (t1_with 300 0 65536) 20 2
    ∷ unheld (t1_with 300 1 65536) 20 1
    ∷ responds (events 404) (270 ∷ 405 ∷ 0 ∷ []) 1
    ∷ responds (events 440) (270 ∷ 405 ∷ 0 ∷ []) 1
    ∷ responds (events 475) (270 ∷ 405 ∷ 470 ∷ []) 0
    ∷ []
