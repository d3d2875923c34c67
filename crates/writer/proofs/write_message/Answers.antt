-- The identifier, and behind it the rest.
use Rattle.std.proofs.Common.{ℕ, ◌≡◌, ◌+◌, ◌++◌, ◌∙◌, arith, ap, sym, get_or, length, drop}
use Rattle.std.proofs.lemmas.List.Edits.{sets-eq}
use Rattle.basics.proofs.Runs.{put_rest}
use Rattle.problem.specs.Layout.{identifier_bytes, rest_bytes}
use Rattle.problem.proofs.Layouts.{identifier-length}
use Rattle.writer.proofs.write_message.Goals as goal

pub returns : goal.returns
returns c =
    let out = c.args.out.now in
    let id = identifier_bytes c.args.layout (get_or c.args.words.now 0 0) in
    let long = identifier-length c.args.layout (get_or c.args.words.now 0 0) in
    let e : length id ≡ c.identifier_size-behind.result = long ∙ sym c.identifier_size-behind.ensures.0 in
    let z : 0 + length id ≡ c.identifier_size-behind.result = omega (arith, e) in
    put_rest id (rest_bytes c.args.words.now) out _ _ c.identifier_size-behind.result
    (c.put_identifier.ensures ∙ sets-eq id out 0 (omega (arith, long)) ∙ ap (λ (k : ℕ). id ++ drop k out) z) e c.write_rest.ensures
