use Rattle.std.proofs.Common.{◌≡◌, ℕ, ◌+◌, ◌*◌, ◌/◌, ◌%◌, ◌++◌, List, append_assoc, arith, ap, sym, ◌∙◌}
use Rattle.masked_update.specs.Views.{state_in}
use Rattle.depth_image.specs.Picture.{pixel_lines}
use Rattle.depth_image.specs.Samples.{sample_lines, subs_of_tile}
use Rattle.depth_image.proofs.Pixels.{eight_pixels, number_within, pixels_none, pixels_then, sub_is}
use Rattle.depth_image.proofs.picture.push_tile.Goals as goal

pub state-tile-requires : goal.state-tile-requires
state-tile-requires g c =
    let shown = c.args.shown.now in
    shown.holds (c.from-row.result / 8 * c.tile_columns-columns.result + c.args.column)
    (number_within shown.size c.args.y c.args.column c.from-row.result c.tile_columns-columns.result c.requires.row c.requires.column c.from-row.ensures c.tile_columns-columns.ensures.value)

pub loop-k-init : goal.loop-k-init
loop-k-init g c =
    let shown = c.args.shown.now in
    record {
      text = pixels_none c.args.text.now shown.grade (state_in shown.size (g.V.TileView.tile_of shown.view.now)) c.args.y (32 * c.args.column);
      short = omega arith;
    }

pub overflow_cast-place : goal.overflow_cast-place
overflow_cast-place g c = omega (arith, c.loop-k-test.true, c.subs_of_tile-subs.ensures.few)

pub sub-sub-requires : goal.sub-sub-requires
sub-sub-requires g c = omega (arith, c.loop-k-test.true, c.subs_of_tile-subs.ensures.few)

pub push_samples-requires-clause-room : goal.push_samples-requires-clause-room
push_samples-requires-clause-room g c = omega (arith, c.loop-k.invariant.short, c.loop-k-test.true, c.subs_of_tile-subs.ensures.value, c.requires.room)

pub loop-k-preserved : goal.loop-k-preserved
loop-k-preserved g c =
    let shown = c.args.shown.now in
    let size = shown.size in let grade = shown.grade in
    let tile_of = g.V.TileView.tile_of shown.view.now in
    let states = state_in size tile_of in
    let y = c.args.y in let column = c.args.column in let k = c.loop-k.k in
    let row = c.from-row.result in
    let s = c.sub-sub.result in
    let old = c.args.text.now in
    let is = sub_is size tile_of y column k row c.tile_columns-columns.result c.state-tile.result s c.from-row.ensures c.tile_columns-columns.ensures.value c.state-tile.ensures c.sub-sub.ensures.value in
    let so_far = pixel_lines grade states y (32 * column) (8 * k) in
    let next = sample_lines grade s (8 * (row % 4)) 8 in
    let eight = eight_pixels size grade tile_of y column k s shown.within c.requires.row (omega (arith, c.loop-k-test.true, c.subs_of_tile-subs.ensures.few))
    (omega (arith, c.loop-k-test.true, c.subs_of_tile-subs.ensures.within)) is in
    let pixels = ap (λ (r : ℕ). sample_lines grade s (8 * (r % 4)) 8) c.from-row.ensures ∙ eight in
    let more : 8 * k + 8 ≡ 8 * (k + 1) = omega arith in
    record {
      text = c.push_samples.ensures.value ∙ ap (λ (t : List ℕ). t ++ next) c.loop-k.invariant.text ∙ append_assoc old so_far next ∙ ap (λ (t : List ℕ). old ++ (so_far ++ t)) pixels
          ∙ ap (λ (t : List ℕ). old ++ t) (sym (pixels_then grade states y (32 * column) (8 * k) 8)) ∙ ap (λ (n : ℕ). old ++ pixel_lines grade states y (32 * column) n) more;
      short = omega (arith, c.push_samples.ensures.room, c.loop-k.invariant.short);
    }

pub returns-clause-value : goal.returns-clause-value
returns-clause-value g c =
    let shown = c.args.shown.now in
    let states = state_in shown.size (g.V.TileView.tile_of shown.view.now) in
    let end : c.loop-k.k ≡ subs_of_tile shown.size c.args.column = omega (arith, c.loop-k-test.false, c.loop-k.auto.k-end, c.subs_of_tile-subs.ensures.value) in
    c.loop-k.invariant.text ∙ ap (λ (n : ℕ). c.args.text.now ++ pixel_lines shown.grade states c.args.y (32 * c.args.column) (8 * n)) end

pub returns-clause-room : goal.returns-clause-room
returns-clause-room g c = omega (arith, c.loop-k.invariant.short, c.loop-k-test.false, c.loop-k.auto.k-end, c.subs_of_tile-subs.ensures.value)

pub returns-clause-sized : goal.returns-clause-sized
returns-clause-sized g c = c.subs_of_tile-subs.ensures.sized
