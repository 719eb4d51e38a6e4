use Rattle.std.proofs.Common.{◌≡◌, ◌∙◌, ap, sym, subst}
use Rattle.std.specs.Prelude.{◌↔◌}
use Rattle.cull_base.specs.declared.rect.Rect.{Rect}
use Rattle.cull_base.specs.Rectangle.{HasPixel}
use Rattle.binning.specs.Bins.{bin_rect_of, span_rect_of, IsInTileOfBin}
use Rattle.binning.proofs.BinSpans.{bin_pixels, bin_of_none}
use Rattle.binning.proofs.bins.bin_rect.Goals as goal

pub returns : goal.returns
unfolding bin_rect_of
returns c =
    let size = c.args.size in let cut = c.args.cut.now in let bin = c.args.bin in
    let valid = c.width-width.ensures.valid in let is_cut = c.columns-columns.ensures.valid in
    let is : c.span_rect.result ≡ bin_rect_of size cut bin = c.span_rect.ensures ∙ ap (span_rect_of size) c.bin_span.ensures.value in
    record {
      value = is;
      pixels = λ x y. subst (λ (r : Rect). HasPixel r x y ↔ IsInTileOfBin size cut bin x y) (sym is) (bin_pixels size cut bin x y valid is_cut);
      none = λ h. is ∙ bin_of_none size cut bin valid is_cut c.requires h;
    }
