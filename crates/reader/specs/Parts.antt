-- What the functions that read a file ask of it.
use Rattle.std.specs.Prelude.{ℕ, ◌≤◌, ◌≡◌, List, length}
use Rattle.problem.specs.declared.layout.Layout.{Layout}
use Rattle.problem.specs.File.{bytes_for, columns_in, messages_in}

-- the file f has the bytes of k columns and m messages in layout L, as its header says
pub record Sized (L : Layout) (f : List ℕ) (k m : ℕ) : Type 0 where
  pub columns-are : k ≡ columns_in f
  pub messages-are : m ≡ messages_in f
  pub bytes : length f ≡ bytes_for L k m
  pub columns-most : k ≤ 32
  pub messages-most : m ≤ 64
