use Rattle.std.proofs.Common.{FitsSigned, w64, rules}
use Rattle.std.proofs.lemmas.Int.{to_z-of_z}
use Rattle.cull_base.specs.Screen.{dimensions}
use Rattle.box_rays.proofs.Objects.{beside_empty}
use Rattle.box_rays.proofs.Points.{nearest_points}
use Rattle.box_rays.proofs.reached.Reached.proposed.Goals as goal

pub returns-then-is_certain-clause-says : goal.returns-then-is_certain-clause-says
returns-then-is_certain-clause-says c =
    λ unit points held.
    beside_empty (dimensions c.args.width c.args.height) c.proposed_rect-rect.result points (c.is_empty.ensures.none c.if-is_empty.true) (c.is_certain.ensures c.if-is_certain.true unit points held)

pub returns-in-Some-clause-says : goal.returns-in-Some-clause-says
returns-in-Some-clause-says c =
    let nearest : FitsSigned w64 c.nearest_of-nearest.result = search rules in
    λ unit points held.
    nearest_points c.args.top c.args.near c.args.share c.in-Some.nearness unit c.nearest_of-nearest.result c.args.corners.now points
    (simp to_z-of_z at c.in-Some.ensures.value) c.nearest_of-nearest.ensures held
