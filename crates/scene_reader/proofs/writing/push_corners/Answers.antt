use Rattle.std.proofs.Common.{◌∙◌, ◌++◌, List, ℕ, ap, append_assoc}
use Rattle.scene_reader.specs.Layout.{row_bytes}
use Rattle.scene_reader.proofs.Appending.{block_bytes}
use Rattle.scene_reader.proofs.writing.push_corners.Goals as goal

pub returns-clause-value : goal.returns-clause-value
returns-clause-value c =
    let low = c.args.low.now in
    let high = c.args.high.now in
    c.push_row-2.ensures.value ∙ ap (λ (t : List ℕ). t ++ row_bytes high) c.push_row.ensures.value ∙ append_assoc c.args.piece.now (row_bytes low) (row_bytes high)
    ∙ ap (λ (t : List ℕ). c.args.piece.now ++ t) (block_bytes low high c.told-low c.told-high)
