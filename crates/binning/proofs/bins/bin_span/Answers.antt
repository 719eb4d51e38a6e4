use Rattle.std.proofs.Common.{◌≡◌, sym, subst}
use Rattle.cull_base.specs.declared.tile_span.TileSpan.{TileSpan}
use Rattle.cull_base.specs.Span.{IsSpan}
use Rattle.binning.specs.Bins.{bin_span_of, HasTilesOfBin}
use Rattle.binning.proofs.BinSpans.{span_has_tile, bin_is_span}
use Rattle.binning.proofs.bins.bin_span.Goals as goal

pub returns : goal.returns
unfolding bin_span_of
returns c =
    let span : TileSpan = record { first_column = c.first_tile.result; end_column = c.first_tile-2.result; first_row = c.first_tile-3.result; end_row = c.first_tile-4.result } in
    let is : span ≡ bin_span_of c.args.size c.args.cut.now c.args.bin = cc in
    record {
      value = is;
      tiles = subst (λ s. HasTilesOfBin s c.args.size c.args.cut.now c.args.bin) (sym is) (span_has_tile c.args.size c.args.cut.now c.args.bin c.width-width.ensures.valid c.columns.ensures.valid);
      span = subst (IsSpan c.args.size) (sym is) (bin_is_span c.args.size c.args.cut.now c.args.bin c.columns.ensures.valid c.requires);
    }
