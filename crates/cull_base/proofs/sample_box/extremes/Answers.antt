use Rattle.std.proofs.Common.{◌∙◌, pos, FitsSigned, w32, rules, slice_index_or}
use Rattle.cull_base.proofs.Extents.{least_of_three, greatest_of_three}
use Rattle.cull_base.proofs.SignedLanes.{four_same, least_lane, greatest_lane}
use Rattle.cull_base.proofs.sample_box.extremes.Goals as goal

pub returns : goal.returns
returns c =
    let xs = c.args.x.now in let ys = c.args.y.now in
    let f0 : FitsSigned w32 (slice_index_or xs 0 (pos 0)) = search rules in let f1 : FitsSigned w32 (slice_index_or xs 1 (pos 0)) = search rules in let f2 : FitsSigned w32 (slice_index_or xs 2 (pos 0)) = search rules in
    let g0 : FitsSigned w32 (slice_index_or ys 0 (pos 0)) = search rules in let g1 : FitsSigned w32 (slice_index_or ys 1 (pos 0)) = search rules in let g2 : FitsSigned w32 (slice_index_or ys 2 (pos 0)) = search rules in
    four_same _ _ _ _ _ _ _ _ (least_lane _ _ _ f0 f1 f2 ∙ least_of_three xs c.told-x) (least_lane _ _ _ g0 g1 g2 ∙ least_of_three ys c.told-y)
    (greatest_lane _ _ _ f0 f1 f2 ∙ greatest_of_three xs c.told-x) (greatest_lane _ _ _ g0 g1 g2 ∙ greatest_of_three ys c.told-y)
