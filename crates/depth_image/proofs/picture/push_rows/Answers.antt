use Rattle.std.proofs.Common.{◌≡◌, ℕ, ◌+◌, ◌*◌, ◌++◌, List, append_assoc, arith, ap, sym, ◌∙◌}
use Rattle.masked_update.specs.Views.{state_in}
use Rattle.depth_image.specs.Picture.{pixel_lines, row_lines}
use Rattle.depth_image.proofs.Numbers.{room_more}
use Rattle.depth_image.proofs.Pixels.{rows_more, rows_none}
use Rattle.depth_image.proofs.picture.push_rows.Goals as goal

pub loop-k-init : goal.loop-k-init
loop-k-init g c =
    let shown = c.args.shown.now in
    record { text = rows_none c.args.text.now shown.size.width shown.grade (state_in shown.size (g.V.TileView.tile_of shown.view.now)) c.args.first; short = omega arith }

pub push_row-requires-clause-row : goal.push_row-requires-clause-row
push_row-requires-clause-row g c = omega (arith, c.loop-k-test.true, c.requires.rows)

pub push_row-requires-clause-room : goal.push_row-requires-clause-room
push_row-requires-clause-room g c =
    let more = room_more c.loop-k.k c.args.count c.args.shown.now.size.width c.loop-k-test.true in
    omega (arith, more, c.loop-k.invariant.short, c.requires.room)

pub loop-k-preserved : goal.loop-k-preserved
loop-k-preserved g c =
    let shown = c.args.shown.now in
    let width = shown.size.width in
    let states = state_in shown.size (g.V.TileView.tile_of shown.view.now) in
    let first = c.args.first in let k = c.loop-k.k in
    let old = c.args.text.now in
    let so_far = row_lines width shown.grade states first k in
    let row = pixel_lines shown.grade states (first + k) 0 width in
    let more : k * width + width ≡ (k + 1) * width = omega arith in
    record {
      text = c.push_row.ensures.value ∙ ap (λ (t : List ℕ). t ++ row) c.loop-k.invariant.text ∙ append_assoc old so_far row ∙ ap (λ (t : List ℕ). old ++ t) (sym (rows_more width shown.grade states first k));
      short = omega (arith, c.push_row.ensures.room, c.loop-k.invariant.short, more);
    }

pub returns : goal.returns
returns g c =
    let shown = c.args.shown.now in
    let states = state_in shown.size (g.V.TileView.tile_of shown.view.now) in
    let end : c.loop-k.k ≡ c.args.count = omega (arith, c.loop-k-test.false, c.loop-k.auto.k-end) in
    c.loop-k.invariant.text ∙ ap (λ (n : ℕ). c.args.text.now ++ row_lines shown.size.width shown.grade states c.args.first n) end
