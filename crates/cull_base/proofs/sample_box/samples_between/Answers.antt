use Rattle.std.proofs.Common.{◌∙◌, ◌+ℤ◌, ℤ, List, pos, ap, sym, subst, slice_index_or, FitsSigned, w32, rules}
use Rattle.std.proofs.lemmas.Int.{to_z-of_z}
use Rattle.cull_base.specs.declared.rect.Rect.{Rect}
use Rattle.cull_base.specs.Piece.{IsCoordinate, first_pixel}
use Rattle.cull_base.proofs.Extents.{least_within, greatest_within}
use Rattle.cull_base.proofs.SignedLanes.{passed}
use Rattle.cull_base.proofs.sample_box.samples_between.Goals as goal

pub samples-requires-clause-left : goal.samples-requires-clause-left
samples-requires-clause-left c = passed _ (subst (λ (v : List ℤ). IsCoordinate (slice_index_or v 0 (pos 0))) (sym c.extremes.ensures) (least_within c.args.x.now c.requires.x c.told-x))

pub samples-requires-clause-top : goal.samples-requires-clause-top
samples-requires-clause-top c = passed _ (subst (λ (v : List ℤ). IsCoordinate (slice_index_or v 1 (pos 0))) (sym c.extremes.ensures) (least_within c.args.y.now c.requires.y c.told-y))

pub samples-requires-clause-right : goal.samples-requires-clause-right
samples-requires-clause-right c = passed _ (subst (λ (v : List ℤ). IsCoordinate (slice_index_or v 2 (pos 0))) (sym c.extremes.ensures) (greatest_within c.args.x.now c.requires.x c.told-x))

pub samples-requires-clause-bottom : goal.samples-requires-clause-bottom
samples-requires-clause-bottom c = passed _ (subst (λ (v : List ℤ). IsCoordinate (slice_index_or v 3 (pos 0))) (sym c.extremes.ensures) (greatest_within c.args.y.now c.requires.y c.told-y))

-- the samples of extremes
abbrev samples_of : List ℤ → Rect
samples_of v = record {
  x0 = first_pixel (slice_index_or v 0 (pos 0) +ℤ pos 7);
  y0 = first_pixel (slice_index_or v 1 (pos 0) +ℤ pos 7);
  x1 = first_pixel (slice_index_or v 2 (pos 0) +ℤ pos 8);
  y1 = first_pixel (slice_index_or v 3 (pos 0) +ℤ pos 8);
}

pub returns : goal.returns
returns c =
    let v = c.extremes.result in
    let f0 : FitsSigned w32 (slice_index_or v 0 (pos 0)) = search rules in let f1 : FitsSigned w32 (slice_index_or v 1 (pos 0)) = search rules in
    let f2 : FitsSigned w32 (slice_index_or v 2 (pos 0)) = search rules in let f3 : FitsSigned w32 (slice_index_or v 3 (pos 0)) = search rules in
    simp to_z-of_z at c.samples.ensures ∙ ap samples_of c.extremes.ensures
