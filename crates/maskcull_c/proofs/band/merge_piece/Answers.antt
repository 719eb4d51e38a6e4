use Rattle.std.proofs.Common.{subst, sym}
use Rattle.cull_base.specs.Piece.{Piece}
use Rattle.cull_base.specs.Screen.{Dimensions}
use Rattle.cull_base.specs.Span.{has_tile}
use Rattle.masked_update.specs.Samples.{HoldsSampled}
use Rattle.masked_update.specs.Walk.{MergedWhere}
use Rattle.maskcull_c.specs.Bands.{band_of}
use Rattle.maskcull_c.proofs.band.merge_piece.Goals as goal

pub merge_small_in_span-requires-clause-reached : goal.merge_small_in_span-requires-clause-reached
merge_small_in_span-requires-clause-reached c =
    subst (λ (y : Piece). HoldsSampled y c.of-reached.result) (sym c.in-Some.ensures) (c.sampled-sampled.result, c.sampled-sampled.ensures.holds, c.of-reached.ensures.reached)

pub returns-in-Some : goal.returns-in-Some
returns-in-Some c =
    let old = band_of c.args.window c.args.tiles.now in
    let new = band_of c.args.window c.merge_small_in_span.new.tiles in
    subst (λ (s : Dimensions). MergedWhere (has_tile c.args.span) s c.args.tri.now old new) c.of-reached.ensures.size
    (subst (λ (y : Piece). MergedWhere (has_tile c.args.span) c.of-reached.result.size y old new) c.in-Some.ensures c.merge_small_in_span.ensures)

pub merge_set_up-requires-clause-reached : goal.merge_set_up-requires-clause-reached
merge_set_up-requires-clause-reached c = (c.sampled-sampled.result, c.sampled-sampled.ensures.holds, c.of-reached.ensures.reached)

pub returns-in-None : goal.returns-in-None
returns-in-None c =
    let old = band_of c.args.window c.args.tiles.now in
    let new = band_of c.args.window c.merge_set_up.new.tiles in
    subst (λ (s : Dimensions). MergedWhere (has_tile c.args.span) s c.args.tri.now old new) c.of-reached.ensures.size c.merge_set_up.ensures
