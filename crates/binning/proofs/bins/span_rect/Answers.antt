use Rattle.std.proofs.Common.{sym, ◌∙◌}
use Rattle.binning.proofs.BinSpans.{first_within, last_within, spread_is}
use Rattle.binning.proofs.bins.span_rect.Goals as goal

pub tile_rect-requires : goal.tile_rect-requires
tile_rect-requires c = first_within c.args.size c.args.span.now c.tile_columns-columns.result c.tile_columns-columns.ensures.value c.requires (sym c.has_tiles.ensures ∙ c.if-has_tiles.true)

pub tile_rect-requires-then-has_tiles : goal.tile_rect-requires-then-has_tiles
tile_rect-requires-then-has_tiles c = last_within c.args.size c.args.span.now c.tile_columns-columns.result c.tile_columns-columns.ensures.value c.requires (sym c.has_tiles.ensures ∙ c.if-has_tiles.true)

pub returns-then-has_tiles : goal.returns-then-has_tiles
returns-then-has_tiles c =
    c.spread.ensures
    ∙ spread_is c.args.size c.args.span.now c.tile_columns-columns.result c.tile_rect.result c.tile_rect-then-has_tiles.result c.tile_columns-columns.ensures.value c.requires (sym c.has_tiles.ensures ∙ c.if-has_tiles.true)
    c.tile_rect.ensures c.tile_rect-then-has_tiles.ensures
