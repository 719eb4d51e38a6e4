use Rattle.std.proofs.Common.{FitsSigned, w64, rules}
use Rattle.std.proofs.lemmas.Int.{to_z-of_z}
use Rattle.exact_clip.proofs.parts.sum.Goals as goal

pub returns : goal.returns
returns c =
    let x = c.args.x.now in let y = c.args.y.now in let z = c.args.z.now in let l = c.args.last.now in
    let xx : FitsSigned w64 x.x = search rules in let xy : FitsSigned w64 x.y = search rules in let xw : FitsSigned w64 x.w = search rules in
    let yx : FitsSigned w64 y.x = search rules in let yy : FitsSigned w64 y.y = search rules in let yw : FitsSigned w64 y.w = search rules in
    let zx : FitsSigned w64 z.x = search rules in let zy : FitsSigned w64 z.y = search rules in let zw : FitsSigned w64 z.w = search rules in
    let lx : FitsSigned w64 l.x = search rules in let ly : FitsSigned w64 l.y = search rules in let lw : FitsSigned w64 l.w = search rules in
    let sx : FitsSigned w64 c.sum_of_four.result = search rules in let sy : FitsSigned w64 c.sum_of_four-2.result = search rules in let sw : FitsSigned w64 c.sum_of_four-3.result = search rules in
    let ex = simp to_z-of_z at c.sum_of_four.ensures in
    let ey = simp to_z-of_z at c.sum_of_four-2.ensures in
    let ew = simp to_z-of_z at c.sum_of_four-3.ensures in
    simp to_z-of_z (record { x = ex; y = ey; w = ew })
