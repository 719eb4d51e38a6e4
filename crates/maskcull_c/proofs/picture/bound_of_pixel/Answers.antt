use Rattle.std.proofs.Common.{◌≡◌, ◌+◌, ◌*◌, ◌/◌, ◌%◌, length, ap, ◌∙◌}
use Rattle.std.proofs.lemmas.List.{get_or_read}
use Rattle.cull_base.specs.State.{State, bound_at}
use Rattle.masked_update.specs.TileOf.{TileOf, no_tile, sub_at, tile_at}
use Rattle.maskcull_c.proofs.Pictures.{number_within}
use Rattle.maskcull_c.proofs.picture.bound_of_pixel.Goals as goal

pub bounds-tiles-number : goal.bounds-tiles-number
bounds-tiles-number c = number_within c.args.size c.args.x c.args.y c.tile_columns.result (length c.args.tiles.now) c.requires.inside.0 c.requires.inside.1 c.tile_columns.ensures.value c.requires.all

pub returns : goal.returns
returns c =
    let x = c.args.x in
    let y = c.args.y in
    let tiles = c.args.tiles.now in
    let columns = c.tile_columns.result in
    let n = y / 4 / 2 * columns + x / 8 / 4 in
    let j = 4 * (y / 4 % 2) + x / 8 % 4 in
    let within = number_within c.args.size x y columns (length tiles) c.requires.inside.0 c.requires.inside.1 c.tile_columns.ensures.value c.requires.all in
    let read : c.index-tiles-number.result ≡ tile_at tiles n = get_or_read tiles n c.index-tiles-number.result within c.index-tiles-number.is no_tile in
    c.bound_at.ensures
    ∙ ap (λ (s : State). bound_at s (8 * (y % 4) + x % 8))
    (c.sub-sub.ensures.value ∙ ap (λ (t : TileOf). sub_at t j) read ∙ ap (λ m. sub_at (tile_at tiles (y / 4 / 2 * m + x / 8 / 4)) j) c.tile_columns.ensures.value)
