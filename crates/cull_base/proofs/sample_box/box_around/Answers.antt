use Rattle.std.proofs.Common.{◌∙◌, ℤ, List, pos, ap, slice_index_or, FitsSigned, w32, rules}
use Rattle.std.proofs.lemmas.Int.{to_z-of_z}
use Rattle.cull_base.specs.declared.rect.Rect.{Rect}
use Rattle.cull_base.specs.Piece.{end_pixel, first_pixel}
use Rattle.cull_base.proofs.sample_box.box_around.Goals as goal

-- the pixels of extremes
abbrev pixels_of : List ℤ → Rect
pixels_of v = record {
  x0 = first_pixel (slice_index_or v 0 (pos 0));
  y0 = first_pixel (slice_index_or v 1 (pos 0));
  x1 = end_pixel (slice_index_or v 2 (pos 0));
  y1 = end_pixel (slice_index_or v 3 (pos 0));
}

pub returns : goal.returns
returns c =
    let v = c.extremes.result in
    let f0 : FitsSigned w32 (slice_index_or v 0 (pos 0)) = search rules in let f1 : FitsSigned w32 (slice_index_or v 1 (pos 0)) = search rules in
    let f2 : FitsSigned w32 (slice_index_or v 2 (pos 0)) = search rules in let f3 : FitsSigned w32 (slice_index_or v 3 (pos 0)) = search rules in
    simp to_z-of_z at c.pixels.ensures ∙ ap pixels_of c.extremes.ensures
