use Rattle.std.proofs.Common.{◌≡◌, sym, refl, ◌∙◌}
use Rattle.std.specs.Prelude.{◌||◌}
use Rattle.scene_reader.specs.Fault.{is_bad_row}
use Rattle.scene_reader.proofs.Shapes.{or_then, or_else, block_parts}
use Rattle.scene_reader.proofs.objects.is_bad_block.Goals as goal
use Rattle.scene_reader.proofs.objects.is_bad_block.Goals.{then-is_bad_row, else-is_bad_row}

pub returns-then-is_bad_row-2-clause-value : goal.returns-then-is_bad_row-2-clause-value
returns-then-is_bad_row-2-clause-value c =
    let low = c.args.low.now in
    let high = c.args.high.now in
    let joined : c.if-is_bad_row.value ≡ (is_bad_row low || is_bad_row high) = elim c.if-is_bad_row.branch [ then-is_bad_row t ↦ or_then _ _ _ (sym c.is_bad_row.ensures ∙ t.if-is_bad_row.true) (t.value-is ∙ c.is_bad_row.ensures) | else-is_bad_row t ↦ or_else _ _ _ (sym c.is_bad_row.ensures ∙ t.if-is_bad_row.false) (t.value-is ∙ t.is_bad_row-else-is_bad_row.ensures) ] in
    block_parts low high c.if-is_bad_row.value _ c.told-low c.told-high joined (or_then _ _ _ c.if-is_bad_row-2.true refl)

pub returns-else-is_bad_row-2-clause-value : goal.returns-else-is_bad_row-2-clause-value
returns-else-is_bad_row-2-clause-value c =
    let low = c.args.low.now in
    let high = c.args.high.now in
    let joined : c.if-is_bad_row.value ≡ (is_bad_row low || is_bad_row high) = elim c.if-is_bad_row.branch [ then-is_bad_row t ↦ or_then _ _ _ (sym c.is_bad_row.ensures ∙ t.if-is_bad_row.true) (t.value-is ∙ c.is_bad_row.ensures) | else-is_bad_row t ↦ or_else _ _ _ (sym c.is_bad_row.ensures ∙ t.if-is_bad_row.false) (t.value-is ∙ t.is_bad_row-else-is_bad_row.ensures) ] in
    block_parts low high c.if-is_bad_row.value _ c.told-low c.told-high joined (or_else _ _ _ c.if-is_bad_row-2.false c.box_runs_back.ensures)
