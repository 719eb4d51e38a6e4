use Rattle.std.proofs.Common.{subst, sym}
use Rattle.cull_base.specs.Piece.{Piece}
use Rattle.cull_base.specs.Span.{has_tile}
use Rattle.masked_update.specs.Samples.{HoldsSampled}
use Rattle.masked_update.specs.Walk.{MergedWhere}
use Rattle.masked_update.proofs.walk.merge_in_tiles.Goals as goal

pub merge_small_in_span-requires-clause-reached : goal.merge_small_in_span-requires-clause-reached
merge_small_in_span-requires-clause-reached c = subst (λ (y : Piece). HoldsSampled y c.args.reached.now) (sym c.in-Some.ensures) c.requires.reached

pub returns-in-Some : goal.returns-in-Some
returns-in-Some c = subst (λ (y : Piece). MergedWhere (has_tile c.args.span) c.args.reached.now.size y c.args.canvas.now c.merge_small_in_span.new.canvas) c.in-Some.ensures c.merge_small_in_span.ensures
