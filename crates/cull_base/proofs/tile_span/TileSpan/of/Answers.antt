use Rattle.std.proofs.Common.{rules, ◌≡◌, FitsSigned, w32, ap, ◌∙◌}
use Rattle.std.proofs.lemmas.Int.{to_z-of_z}
use Rattle.cull_base.specs.Screen.{screen_of}
use Rattle.cull_base.specs.Rectangle.{cut_of}
use Rattle.cull_base.proofs.Spans.{FromZero, from_zero, span_is}
use Rattle.cull_base.proofs.tile_span.TileSpan.of.Goals as goal
use Rattle.cull_base.proofs.tile_span.TileSpan.of.Goals.{After-cut-reached}

reached : (c : After-cut-reached) → c.cut-reached.result ≡ cut_of c.args.rect.now (screen_of c.args.size)
reached c = c.cut-reached.ensures.value ∙ ap (cut_of c.args.rect.now) c.screen.ensures

begins : (c : After-cut-reached) → FromZero c.cut-reached.result
begins c = from_zero c.args.size c.args.rect.now c.cut-reached.result (reached c)

pub pixel_of-requires : goal.pixel_of-requires
pixel_of-requires c = let fits : FitsSigned w32 c.cut-reached.result.x0 = search rules in let z = begins (goal.at.pixel_of-requires c).After-cut-reached in simp to_z-of_z z.x0

pub pixel_of-requires-2 : goal.pixel_of-requires-2
pixel_of-requires-2 c = let fits : FitsSigned w32 c.cut-reached.result.x1 = search rules in let z = begins (goal.at.pixel_of-requires-2 c).After-cut-reached in simp to_z-of_z z.x1

pub pixel_of-requires-3 : goal.pixel_of-requires-3
pixel_of-requires-3 c = let fits : FitsSigned w32 c.cut-reached.result.y0 = search rules in let z = begins (goal.at.pixel_of-requires-3 c).After-cut-reached in simp to_z-of_z z.y0

pub pixel_of-requires-4 : goal.pixel_of-requires-4
pixel_of-requires-4 c = let fits : FitsSigned w32 c.cut-reached.result.y1 = search rules in let z = begins (goal.at.pixel_of-requires-4 c).After-cut-reached in simp to_z-of_z z.y1

pub returns : goal.returns
returns c =
    let f0 : FitsSigned w32 c.cut-reached.result.x0 = search rules in let f1 : FitsSigned w32 c.cut-reached.result.x1 = search rules in
    let g0 : FitsSigned w32 c.cut-reached.result.y0 = search rules in let g1 : FitsSigned w32 c.cut-reached.result.y1 = search rules in
    let is = span_is c.args.size c.args.rect.now c.cut-reached.result c.pixel_of.result c.pixel_of-2.result c.pixel_of-3.result c.pixel_of-4.result c.div_ceil.result c.div_ceil-2.result c.width-width.ensures.valid
    (reached (goal.at.returns c).After-cut-reached)
    (simp to_z-of_z at c.pixel_of.ensures) (simp to_z-of_z at c.pixel_of-2.ensures) (simp to_z-of_z at c.pixel_of-3.ensures) (simp to_z-of_z at c.pixel_of-4.ensures) c.div_ceil.ensures c.div_ceil-2.ensures in
    record { tiles = is.0; span = is.1; sized = c.width-width.ensures.valid }
