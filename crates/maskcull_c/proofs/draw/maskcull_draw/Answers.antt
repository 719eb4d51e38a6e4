use Rattle.std.proofs.Common.{map, ap, ◌∙◌}
use Rattle.std.proofs.Math.Nat.{zero-mul}
use Rattle.cull_base.specs.Grade.{top_of}
use Rattle.cull_base.specs.Screen.{tile_columns_of}
use Rattle.cull_base.specs.declared.tile_span.TileSpan.{TileSpan}
use Rattle.maskcull_c.specs.Bands.{first_in}
use Rattle.maskcull_c.specs.Given.{clip_of, grade_of, pieces_drawn, size_of, tri_of, winding_of}
use Rattle.maskcull_c.proofs.Bands.{merged_as}
use Rattle.maskcull_c.proofs.Merged.{merged_adds}
use Rattle.maskcull_c.proofs.draw.maskcull_draw.Goals as goal

pub returns-clause-merged : goal.returns-clause-merged
returns-clause-merged c e =
    let setup = c.args.setup.now in
    let checked = c.in-Some.checked in
    let is = c.in-Some.ensures in
    let first = ap (λ (w : TileSpan). first_in checked.size w) c.whole-window.ensures.value ∙ zero-mul (tile_columns_of checked.size) in
    merged_as checked.size (size_of setup) (first_in checked.size c.whole-window.result) 0 (top_of checked.grade) (top_of (grade_of setup)) checked.near setup.near checked.winding (winding_of setup.winding) (map clip_of c.args.vertices.now) (map tri_of c.args.triangles.now) c.args.tiles.now c.draw_onto.new.tiles
    is.size first (ap top_of is.grade) is.near is.winding (c.draw_onto.ensures.merged e)

pub returns-clause-drawn : goal.returns-clause-drawn
returns-clause-drawn c e =
    let setup = c.args.setup.now in
    merged_adds (size_of setup) 0 (pieces_drawn setup c.args.vertices.now c.args.triangles.now) c.args.tiles.now c.draw_onto.new.tiles c.in-Some.ensures.none.size (returns-clause-merged c e)
