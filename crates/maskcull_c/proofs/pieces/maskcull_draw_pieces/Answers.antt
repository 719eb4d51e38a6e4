use Rattle.std.proofs.Common.{ap, ◌∙◌, subst}
use Rattle.cull_base.specs.Screen.{Dimensions}
use Rattle.maskcull_c.specs.Bands.{AreMerged, first_in}
use Rattle.maskcull_c.specs.Given.{size_of}
use Rattle.maskcull_c.specs.Tiles.{AreRows, row_start}
use Rattle.maskcull_c.proofs.Bands.{band_is_rows}
use Rattle.maskcull_c.proofs.Merged.{merged_adds, merged_counts}
use Rattle.maskcull_c.proofs.pieces.maskcull_draw_pieces.Goals as goal

pub returns-clause-merged : goal.returns-clause-merged
returns-clause-merged c e =
    let size = size_of c.args.setup.now in
    let checked = c.in-Some.checked in
    let window = c.in-Some-window_from.window in
    let sized = c.in-Some.ensures.size in
    let first = ap (row_start checked.size) c.in-Some-window_from.ensures.1 ∙ ap (λ (s : Dimensions). row_start s c.args.first_row) sized in
    subst (λ n. AreMerged size n c.args.pieces.now c.args.tiles.now c.draw_listed.new.tiles) first
    (subst (λ (s : Dimensions). AreMerged s (first_in checked.size window) c.args.pieces.now c.args.tiles.now c.draw_listed.new.tiles) sized c.draw_listed.ensures)

pub returns-clause-drawn : goal.returns-clause-drawn
returns-clause-drawn c e =
    let size = size_of c.args.setup.now in
    merged_adds size (row_start size c.args.first_row) c.args.pieces.now c.args.tiles.now c.draw_listed.new.tiles c.in-Some.ensures.none.size (returns-clause-merged c e)

pub returns-clause-counts : goal.returns-clause-counts
returns-clause-counts c =
    let checked = c.in-Some.checked in
    merged_counts checked.size (first_in checked.size c.in-Some-window_from.window) c.args.pieces.now c.args.tiles.now c.draw_listed.new.tiles c.draw_listed.ensures

pub returns-clause-refuses_tiles : goal.returns-clause-refuses_tiles
returns-clause-refuses_tiles c setup isnt =
    let band = c.in-Some-window_from.ensures in
    let rows = band_is_rows c.in-Some.checked.size c.in-Some-window_from.window c.args.first_row c.args.tiles.now band.0 band.1 in
    absurd (isnt (subst (λ (size : Dimensions). AreRows size c.args.first_row c.args.tiles.now) c.in-Some.ensures.size rows))
