use Rattle.std.proofs.Common.{◌∙◌, ◌&&◌, Bool, ap₂, FitsSigned, w32, rules}
use Rattle.cull_base.proofs.SignedLanes.{both_hold, some_place_is}
use Rattle.cull_base.proofs.rect.Rect.meets_in_lanes.Goals as goal

pub returns : goal.returns
returns c =
    let a = c.args.self.now in let b = c.args.other.now in
    let ax0 : FitsSigned w32 a.x0 = search rules in let ax1 : FitsSigned w32 a.x1 = search rules in
    let bx0 : FitsSigned w32 b.x0 = search rules in let bx1 : FitsSigned w32 b.x1 = search rules in
    let ay0 : FitsSigned w32 a.y0 = search rules in let ay1 : FitsSigned w32 a.y1 = search rules in
    let by0 : FitsSigned w32 b.y0 = search rules in let by1 : FitsSigned w32 b.y1 = search rules in
    both_hold _ _ ∙ ap₂ (λ (p : Bool) (q : Bool). p && q) (some_place_is a.x0 b.x0 a.x1 b.x1 ax0 bx0 ax1 bx1) (some_place_is a.y0 b.y0 a.y1 b.y1 ay0 by0 ay1 by1)
