use Rattle.std.proofs.Common.{◌≡◌, ◌∙◌, ap, subst, sym}
use Rattle.cull_base.specs.Screen.{Dimensions, IsSize}
use Rattle.cull_base.specs.Span.{IsPartOf, IsSpan, has_tile}
use Rattle.cull_base.specs.declared.tile_span.TileSpan.{TileSpan}
use Rattle.masked_update.specs.Reached.{reached_in}
use Rattle.masked_update.specs.Taken.{merged_tile}
use Rattle.masked_update.specs.Walk.{MergedWhere}
use Rattle.masked_update.proofs.SampleBoxes.{merged_reached, no_columns, no_rows, part_span, reached_part}
use Rattle.masked_update.proofs.Walks.{none_changed}
use Rattle.masked_update.proofs.walk.draw_piece.Goals as goal

pub returns-then-right-left : goal.returns-then-right-left
returns-then-right-left c =
    let old = c.args.canvas.now in
    let span = c.tiles_in-span.result in
    let tiles : span ≡ reached_in c.of-reached.result old.window = c.tiles_in-span.ensures ∙ ap (reached_in c.of-reached.result) c.window-window.ensures.value in
    merged_reached span c.args.size c.args.tri.now c.sampled-sampled.result c.of-reached.result old old c.width-width.ensures.valid c.greatest_nearness-nearest.ensures.valid c.sampled-sampled.ensures.holds
    c.of-reached.ensures.reached c.of-reached.ensures.size c.window-window.ensures.whole c.tile_count-count.ensures.eight tiles
    (none_changed (has_tile span) (λ p t. merged_tile c.args.size p c.args.tri.now t) old c.window-window.ensures.whole (no_columns span c.if-right-left.true))

pub returns-then-bottom-top : goal.returns-then-bottom-top
returns-then-bottom-top c =
    let old = c.args.canvas.now in
    let span = c.tiles_in-span.result in
    let tiles : span ≡ reached_in c.of-reached.result old.window = c.tiles_in-span.ensures ∙ ap (reached_in c.of-reached.result) c.window-window.ensures.value in
    merged_reached span c.args.size c.args.tri.now c.sampled-sampled.result c.of-reached.result old old c.width-width.ensures.valid c.greatest_nearness-nearest.ensures.valid c.sampled-sampled.ensures.holds
    c.of-reached.ensures.reached c.of-reached.ensures.size c.window-window.ensures.whole c.tile_count-count.ensures.eight tiles
    (none_changed (has_tile span) (λ p t. merged_tile c.args.size p c.args.tri.now t) old c.window-window.ensures.whole (no_rows span c.if-bottom-top.true))

pub merge_where_ahead-requires-clause-part : goal.merge_where_ahead-requires-clause-part
merge_where_ahead-requires-clause-part c =
    let part = reached_part c.of-reached.result c.window-window.result c.tiles_in-span.result c.tiles_in-span.ensures c.if-right-left.false c.if-bottom-top.false in
    subst (λ (w : TileSpan). IsPartOf w c.tiles_in-span.result) c.window-window.ensures.value part

pub merge_where_ahead-requires-clause-reached : goal.merge_where_ahead-requires-clause-reached
merge_where_ahead-requires-clause-reached c = (c.sampled-sampled.result, c.sampled-sampled.ensures.holds, c.of-reached.ensures.reached)

pub merge_where_ahead-requires-clause-span : goal.merge_where_ahead-requires-clause-span
merge_where_ahead-requires-clause-span c =
    let part = reached_part c.of-reached.result c.window-window.result c.tiles_in-span.result c.tiles_in-span.ensures c.if-right-left.false c.if-bottom-top.false in
    let whole = subst (λ (w : TileSpan). IsSpan c.args.size w) (sym c.window-window.ensures.value) c.requires.window in
    subst (λ (s : Dimensions). IsSpan s c.tiles_in-span.result) (sym c.of-reached.ensures.size) (part_span c.args.size c.window-window.result c.tiles_in-span.result part whole)

pub merge_where_ahead-requires-clause-sized : goal.merge_where_ahead-requires-clause-sized
merge_where_ahead-requires-clause-sized c = subst (λ (s : Dimensions). IsSize s.width s.height) (sym c.of-reached.ensures.size) c.width-width.ensures.valid

pub returns : goal.returns
returns c =
    let old = c.args.canvas.now in
    let new = c.merge_where_ahead.new.canvas in
    let span = c.tiles_in-span.result in
    let tiles : span ≡ reached_in c.of-reached.result old.window = c.tiles_in-span.ensures ∙ ap (reached_in c.of-reached.result) c.window-window.ensures.value in
    merged_reached span c.args.size c.args.tri.now c.sampled-sampled.result c.of-reached.result old new c.width-width.ensures.valid c.greatest_nearness-nearest.ensures.valid c.sampled-sampled.ensures.holds
    c.of-reached.ensures.reached c.of-reached.ensures.size c.window-window.ensures.whole c.tile_count-count.ensures.eight tiles
    (subst (λ (s : Dimensions). MergedWhere (has_tile span) s c.args.tri.now old new) c.of-reached.ensures.size c.merge_where_ahead.ensures)
