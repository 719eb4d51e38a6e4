use Rattle.std.proofs.Common.{refl, subst}
use Rattle.cull_base.specs.Span.{has_tile}
use Rattle.masked_update.specs.Walk.{NoneBelowWhere}
use Rattle.masked_update.proofs.Walks.{merged_where_behind, merged_met, met_in_cut}
use Rattle.maskcull_c.specs.Bands.{band_of}
use Rattle.maskcull_c.proofs.band.draw_piece.Goals as goal

pub returns-then-not-is_behind_in_span-clause-met : goal.returns-then-not-is_behind_in_span-clause-met
returns-then-not-is_behind_in_span-clause-met c =
    let window = c.args.window in
    let x = c.args.tri.now in
    merged_met c.cut-span.result c.args.size x (band_of window c.args.tiles.now) (band_of window c.merge_piece.new.tiles)
    (met_in_cut c.args.size x window window c.of.result c.cut-span.result c.boxed.result refl c.boxed.ensures c.of.ensures.tiles c.cut-span.ensures.tiles)
    c.merge_piece.ensures

pub returns-else-not-is_behind_in_span-clause-met : goal.returns-else-not-is_behind_in_span-clause-met
returns-else-not-is_behind_in_span-clause-met c =
    let window = c.args.window in
    let x = c.args.tri.now in
    let old = band_of window c.args.tiles.now in
    let test = has_tile c.cut-span.result in
    let behind = subst (λ q. NoneBelowWhere q test old) c.greatest_nearness.ensures.value (c.is_behind_in_span.ensures c.if-not-is_behind_in_span.false) in
    merged_met c.cut-span.result c.args.size x old old
    (met_in_cut c.args.size x window window c.of.result c.cut-span.result c.boxed.result refl c.boxed.ensures c.of.ensures.tiles c.cut-span.ensures.tiles)
    (merged_where_behind test c.args.size x old c.greatest_nearness.ensures.valid c.requires.whole behind)
