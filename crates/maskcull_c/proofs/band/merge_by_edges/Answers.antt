use Rattle.std.proofs.Common.{subst, sym}
use Rattle.cull_base.specs.Piece.{Piece}
use Rattle.cull_base.specs.Span.{has_tile}
use Rattle.masked_update.specs.Merged.{AreEdgesOf}
use Rattle.masked_update.specs.Samples.{HoldsSampled}
use Rattle.masked_update.specs.Walk.{MergedWhere}
use Rattle.maskcull_c.specs.Bands.{band_of}
use Rattle.maskcull_c.proofs.band.merge_by_edges.Goals as goal

pub merge_in_span-requires-clause-edges : goal.merge_in_span-requires-clause-edges
merge_in_span-requires-clause-edges c = subst (λ (y : Piece). AreEdgesOf c.args.edges y) (sym c.of-piece.ensures.value) c.requires.edges

pub merge_in_span-requires-clause-reached : goal.merge_in_span-requires-clause-reached
merge_in_span-requires-clause-reached c = subst (λ (y : Piece). HoldsSampled y c.args.reached.now) (sym c.of-piece.ensures.value) c.requires.reached

pub returns : goal.returns
returns c =
    let old = band_of c.args.window c.args.tiles.now in
    let new = band_of c.args.window c.merge_in_span.new.tiles in
    subst (λ (y : Piece). MergedWhere (has_tile c.args.span) c.args.reached.now.size y old new) c.of-piece.ensures.value c.merge_in_span.ensures
