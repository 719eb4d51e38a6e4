use Rattle.std.proofs.Common.{map, ap, ◌∙◌, subst}
use Rattle.cull_base.specs.Grade.{top_of}
use Rattle.cull_base.specs.Screen.{Dimensions}
use Rattle.maskcull_c.specs.Bands.{first_in}
use Rattle.maskcull_c.specs.Given.{clip_of, grade_of, pieces_drawn, size_of, tri_of, winding_of}
use Rattle.maskcull_c.specs.Tiles.{AreRows, row_start}
use Rattle.maskcull_c.proofs.Bands.{band_is_rows, merged_as}
use Rattle.maskcull_c.proofs.Merged.{merged_adds}
use Rattle.maskcull_c.proofs.draw.maskcull_draw_band.Goals as goal

pub returns-clause-merged : goal.returns-clause-merged
returns-clause-merged c e =
    let setup = c.args.setup.now in
    let checked = c.in-Some.checked in
    let window = c.in-Some-window_from.window in
    let is = c.in-Some.ensures in
    let row = c.in-Some-window_from.ensures.1 in
    let first = ap (row_start checked.size) row ∙ ap (λ (s : Dimensions). row_start s c.args.first_row) is.size in
    merged_as checked.size (size_of setup) (first_in checked.size window) (row_start (size_of setup) c.args.first_row) (top_of checked.grade) (top_of (grade_of setup)) checked.near setup.near checked.winding (winding_of setup.winding) (map clip_of c.args.vertices.now) (map tri_of c.args.triangles.now) c.args.tiles.now c.draw_onto.new.tiles
    is.size first (ap top_of is.grade) is.near is.winding (c.draw_onto.ensures.merged e)

pub returns-clause-drawn : goal.returns-clause-drawn
returns-clause-drawn c e =
    let setup = c.args.setup.now in
    merged_adds (size_of setup) (row_start (size_of setup) c.args.first_row) (pieces_drawn setup c.args.vertices.now c.args.triangles.now) c.args.tiles.now c.draw_onto.new.tiles c.in-Some.ensures.none.size (returns-clause-merged c e)

pub returns-clause-refuses_tiles : goal.returns-clause-refuses_tiles
returns-clause-refuses_tiles c setup isnt =
    let band = c.in-Some-window_from.ensures in
    let rows = band_is_rows c.in-Some.checked.size c.in-Some-window_from.window c.args.first_row c.args.tiles.now band.0 band.1 in
    absurd (isnt (subst (λ (size : Dimensions). AreRows size c.args.first_row c.args.tiles.now) c.in-Some.ensures.size rows))
