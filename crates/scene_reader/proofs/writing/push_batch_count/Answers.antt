use Rattle.std.proofs.Common.{◌++◌, List, ℕ, [], length, sym, ap, ◌∙◌}
use Rattle.std.proofs.lemmas.List.{append-nil}
use Rattle.scene_reader.specs.Layout.{word_bytes}
use Rattle.scene_reader.proofs.Headers.{at_first, at_second}
use Rattle.scene_reader.proofs.writing.push_batch_count.Goals as goal

pub returns-then-version-eq1 : goal.returns-then-version-eq1
returns-then-version-eq1 c =
    let header = c.args.header.now in
    sym (ap (λ (t : List ℕ). header ++ t) (at_first c.args.version [] (word_bytes (length c.args.batches.now)) c.if-version-eq1.true) ∙ append-nil header)

pub returns : goal.returns
returns c =
    let header = c.args.header.now in
    c.push.ensures
    ∙ ap (λ (t : List ℕ). header ++ t) (c.to_le_bytes.ensures ∙ sym (at_second c.args.version [] (word_bytes (length c.args.batches.now)) c.if-version-eq1.false))
