-- What is accepted has its words, and each message is sound and in range.
use Prim.Native.Nat.{ℕ, ◌<◌}
use mathlib.Core.Path.{◌≡◌}
use mathlib.Core.List.{List}
use lib.ListN.{length}
use Rattle.rules.specs.Problem.{messages, proposal_words, column, row, Placed}
use Rattle.rules.proofs.Meaning.{SoundAll, faultless}
use Rattle.proposal.specs.Accepted.{Accepted}

module _ {p w : List ℕ} (a : Accepted p w) where
  pub sound : SoundAll p w
  sound = (faultless p w).0 a.faultless

  pub words : length w ≡ proposal_words p
  words = sound.words

  pub placed : (j : ℕ) → j < messages p → Placed p j (column w j) (row w j)
  placed j l = (sound.each j l).alone.placed
