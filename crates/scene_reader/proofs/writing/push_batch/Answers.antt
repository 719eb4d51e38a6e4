use Rattle.std.proofs.Common.{◌∷◌, [], append_assoc}
use Rattle.scene_reader.specs.Layout.{word_bytes, winding_code}
use Rattle.scene_reader.proofs.writing.push_batch.Goals as goal

pub returns-clause-value : goal.returns-clause-value
returns-clause-value c =
    let batch = c.args.batch.now in
    rw (c.push-2.ensures, c.push.ensures, c.to_le_bytes.ensures, c.code_of.ensures) (append_assoc c.args.piece.now (word_bytes batch.count) (winding_code batch.winding ∷ []))
