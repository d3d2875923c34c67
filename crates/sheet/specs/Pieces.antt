-- A piece of a text: from one place up to another.
use Rattle.std.specs.Prelude.{ℕ, ◌≤◌, ◌≡◌, ⊤, List, length}
use Rattle.wordlist.specs.declared.Piece.{Piece}
use Rattle.sheet.specs.declared.reading.Misnamed.{Misnamed}
use Rattle.sheet.specs.declared.reading.Misnamed.TheVariants.{Unknown, Again}
use Rattle.sheet.specs.declared.slips.Slip.{Slip}
use Rattle.sheet.specs.declared.slips.Wrong.{Wrong}
use Rattle.sheet.specs.declared.slips.Wrong.TheVariants.{Taken, NodeTaken}

-- the places lie in the text s, in order
pub record Inside (s : List ℕ) (from to : ℕ) : Type 0 where
  pub ordered : from ≤ to
  pub most : to ≤ length s

-- the piece lies in the text s
abbrev pub PieceIn : List ℕ → Piece → Type 0
PieceIn s p = Inside s p.from p.to

-- r words of the buffer e are filled, which is as long as d was
pub record Left (d e : List ℕ) (r : ℕ) : Type 0 where
  pub within : r ≤ length d
  pub long : length e ≡ length d

-- the piece that names no node, or one again, lies in the list s
abbrev pub MisnamedIn : List ℕ → Misnamed → Type 0
MisnamedIn s (Unknown p) = PieceIn s p
MisnamedIn s (Again p) = PieceIn s p

-- the line that has the same before, if the slip names one, begins in the text s
abbrev pub OtherIn : List ℕ → Wrong → Type 0
OtherIn s (Taken at) = at ≤ length s
OtherIn s (NodeTaken at) = at ≤ length s
OtherIn s _ = ⊤

-- the places that a slip names lie in the text s
pub record SlipIn (s : List ℕ) (slip : Slip) : Type 0 where
  pub inside : PieceIn s slip.at
  pub other : OtherIn s slip.wrong
