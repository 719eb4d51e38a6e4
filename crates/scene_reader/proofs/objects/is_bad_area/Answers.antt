use Rattle.std.proofs.Common.{refl, rules}
use Rattle.scene_reader.proofs.Shapes.{area_parts, or_then, or_else}
use Rattle.scene_reader.proofs.objects.is_bad_area.Goals as goal

pub returns-then-is_bad_row : goal.returns-then-is_bad_row
returns-then-is_bad_row c =
    area_parts c.args.rect.now c.args.w c.is_bad_row.result _ (search rules) (search rules) (search rules) (search rules) (search rules) c.is_bad_row.ensures (or_then _ _ _ c.if-is_bad_row.true refl)

pub returns-else-is_bad_row : goal.returns-else-is_bad_row
returns-else-is_bad_row c =
    area_parts c.args.rect.now c.args.w c.is_bad_row.result _ (search rules) (search rules) (search rules) (search rules) (search rules) c.is_bad_row.ensures (or_else _ _ _ c.if-is_bad_row.false c.rectangle_runs_back.ensures)
