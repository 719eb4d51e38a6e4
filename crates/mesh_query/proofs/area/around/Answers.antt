use Rattle.std.proofs.Common.{rules, FitsSigned, w32, refl}
use Rattle.std.proofs.lemmas.Int.{to_z-of_z}
use Rattle.mesh_query.proofs.area.around.Goals as goal

pub returns : goal.returns
returns c =
    let fx : FitsSigned w32 c.min.result = search rules in let fy : FitsSigned w32 c.min-2.result = search rules in
    let gx : FitsSigned w32 c.max.result = search rules in let gy : FitsSigned w32 c.max-2.result = search rules in
    let ax : FitsSigned w32 c.args.a.now.x0 = search rules in let ay : FitsSigned w32 c.args.a.now.y0 = search rules in
    let bx : FitsSigned w32 c.args.b.now.x0 = search rules in let by : FitsSigned w32 c.args.b.now.y0 = search rules in
    let az : FitsSigned w32 c.args.a.now.x1 = search rules in let aw : FitsSigned w32 c.args.a.now.y1 = search rules in
    let bz : FitsSigned w32 c.args.b.now.x1 = search rules in let bw : FitsSigned w32 c.args.b.now.y1 = search rules in
    let x0 = simp to_z-of_z at c.min.ensures.value in let y0 = simp to_z-of_z at c.min-2.ensures.value in
    let x1 = simp to_z-of_z at c.max.ensures.value in let y1 = simp to_z-of_z at c.max-2.ensures.value in
    simp to_z-of_z (rw (x0, y0, x1, y1) refl)
