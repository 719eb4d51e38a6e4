use Rattle.std.proofs.Common.{◌≡◌, ℕ, ◌+◌, ◌*◌, ◌<◌, ◌≤◌, ◌++◌, min, List, length, append_assoc, arith, ap, sym, ◌∙◌}
use Rattle.cull_base.specs.Screen.{tile_columns_of}
use Rattle.masked_update.specs.Views.{state_in}
use Rattle.depth_image.specs.Picture.{pixel_lines}
use Rattle.depth_image.specs.Samples.{subs_of_tile}
use Rattle.depth_image.proofs.Pixels.{pixels_all, pixels_before, pixels_next, pixels_none, pixels_then, tile_room}
use Rattle.depth_image.proofs.picture.push_row.Goals as goal

pub loop-column-init : goal.loop-column-init
loop-column-init g c =
    let shown = c.args.shown.now in
    let states = state_in shown.size (g.V.TileView.tile_of shown.view.now) in
    let none : 0 ≡ min (32 * 0) shown.size.width = omega arith in
    record {
      text = pixels_none c.args.text.now shown.grade states c.args.y 0 ∙ ap (λ (n : ℕ). c.args.text.now ++ pixel_lines shown.grade states c.args.y 0 n) none;
      short = omega arith;
    }

pub push_tile-requires-clause-column : goal.push_tile-requires-clause-column
push_tile-requires-clause-column g c = omega (arith, c.loop-column-test.true, c.tile_columns-column-end.ensures.value)

pub push_tile-requires-clause-room : goal.push_tile-requires-clause-room
push_tile-requires-clause-room g c =
    let size = c.args.shown.now.size in
    let lt : c.loop-column.column < tile_columns_of size = omega (arith, c.loop-column-test.true, c.tile_columns-column-end.ensures.value) in
    tile_room size c.loop-column.column (length c.loop-column.text) (length c.args.text.now) lt c.loop-column.invariant.short c.requires.room

pub loop-column-preserved : goal.loop-column-preserved
loop-column-preserved g c =
    let shown = c.args.shown.now in
    let size = shown.size in let grade = shown.grade in
    let states = state_in size (g.V.TileView.tile_of shown.view.now) in
    let y = c.args.y in let column = c.loop-column.column in
    let old = c.args.text.now in
    let lt : column < tile_columns_of size = omega (arith, c.loop-column-test.true, c.tile_columns-column-end.ensures.value) in
    let before = pixels_before size column lt in
    let next = pixels_next size column c.push_tile.ensures.sized.whole_columns lt in
    let n = min (32 * column) size.width in
    let m = 8 * subs_of_tile size column in
    let so_far = pixel_lines grade states y 0 n in
    let tile = pixel_lines grade states y (32 * column) m in
    let here : 32 * column ≡ 0 + n = omega (arith, before) in
    record {
      text = c.push_tile.ensures.value ∙ ap (λ (t : List ℕ). t ++ tile) c.loop-column.invariant.text ∙ append_assoc old so_far tile
          ∙ ap (λ (a : ℕ). old ++ (so_far ++ pixel_lines grade states y a m)) here ∙ ap (λ (t : List ℕ). old ++ t) (sym (pixels_then grade states y 0 n m))
          ∙ ap (λ (k : ℕ). old ++ pixel_lines grade states y 0 k) next;
      short = omega (arith, c.push_tile.ensures.room, c.loop-column.invariant.short, next);
    }

pub returns-clause-value : goal.returns-clause-value
returns-clause-value g c =
    let shown = c.args.shown.now in
    let states = state_in shown.size (g.V.TileView.tile_of shown.view.now) in
    let past : tile_columns_of shown.size ≤ c.loop-column.column = omega (arith, c.loop-column-test.false, c.tile_columns-column-end.ensures.value) in
    c.loop-column.invariant.text ∙ ap (λ (n : ℕ). c.args.text.now ++ pixel_lines shown.grade states c.args.y 0 n) (pixels_all shown.size c.loop-column.column past)

pub returns-clause-room : goal.returns-clause-room
returns-clause-room g c =
    let size = c.args.shown.now.size in
    let past : tile_columns_of size ≤ c.loop-column.column = omega (arith, c.loop-column-test.false, c.tile_columns-column-end.ensures.value) in
    omega (arith, c.loop-column.invariant.short, pixels_all size c.loop-column.column past)
