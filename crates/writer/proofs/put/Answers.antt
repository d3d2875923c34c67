-- The bytes that are copied are the number's last N, and they stand where `sets` sets them.
use Rattle.std.proofs.Common.{◌≡◌, ◌∙◌, [], ◌∷◌, ◌+◌, ◌-◌, ◌/◌, ◌%◌, ◌≤◌, ℕ, List, length, drop, arith, sym, ap, length-drop, append_assoc}
use Rattle.std.proofs.Math.Seq.{take_all}
use Rattle.std.proofs.lemmas.List.Edits.{sets, sets-eq, paste_all}
use Rattle.std.proofs.lemmas.Slice.{put_mid-paste}
use borrow.Rule.Slice.PartMut.{put_mid}
use Rattle.problem.specs.Bytes.{low, high, third, top}
use Rattle.writer.proofs.put.Goals as goal

part-sets : (at k n : ℕ) (out part vs : List ℕ) → part ≡ vs → n ≡ length vs → n ≡ k → at + n ≤ length out → put_mid at k out part ≡ sets out at vs
part-sets at k n out part vs is long same h =
    put_mid-paste at k out part vs n is same long ∙ paste_all out at vs n long ∙ rw long (sym (sets-eq vs out at (omega arith) ∙ rw append_assoc))

-- the bytes of the library's conversion
bytes : (x : ℕ) → x / 16777216 % 256 ∷ x / 65536 % 256 ∷ x / 256 % 256 ∷ x % 256 ∷ [] ≡ top x ∷ third x ∷ high x ∷ low x ∷ []
bytes x = let t : x / 16777216 % 256 ≡ top x = omega arith in cc

pub returns : goal.returns
returns g c =
    let all = take_all (4 - (4 - g.row.N)) (drop (4 - g.row.N) c.to_be_bytes.result) (rw c.to_be_bytes.ensures (simp length-drop (omega arith))) in
    part-sets c.args.at _ g.row.N c.args.out.now _ _
    (c.copy_from_slice.ensures.after ∙ all ∙ ap (drop (4 - g.row.N)) (c.to_be_bytes.ensures ∙ bytes c.args.x))
    (simp length-drop (omega arith)) (omega arith) (omega arith)
