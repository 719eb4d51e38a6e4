use Rattle.std.proofs.Common.{◌≡◌, pos, rules, FitsSigned, w32, ap}
use Rattle.std.proofs.lemmas.Int.{to_z-of_z}
use Rattle.cull_base.specs.declared.rect.Rect.{Rect}
use Rattle.group_query.specs.Hulls.{no_members}
use Rattle.group_query.proofs.FormHulls.{a_hull, a_rect}
use Rattle.group_query.proofs.hulls.no_members.Goals as goal

pub returns : goal.returns
returns c =
    let fx : FitsSigned w32 c.screen-screen.result.x1 = search rules in let fy : FitsSigned w32 c.screen-screen.result.y1 = search rules in
    let is : a_hull (a_rect c.screen-screen.result.x1 c.screen-screen.result.y1 (pos 0) (pos 0)) 0 0 ≡ no_members c.args.size =
    ap (λ (r : Rect). a_hull (a_rect r.x1 r.y1 (pos 0) (pos 0)) 0 0) c.screen-screen.ensures in
    simp to_z-of_z is
