use Rattle.std.proofs.Common.{FitsSigned, w32, w64, rules}
use Rattle.std.proofs.lemmas.Int.{to_z-of_z}
use Rattle.inward_pieces.proofs.corner.doubled_area.Goals as goal

pub returns : goal.returns
returns c =
    let fax : FitsSigned w32 c.args.a.now.x = search rules in let fay : FitsSigned w32 c.args.a.now.y = search rules in
    let fbx : FitsSigned w32 c.args.b.now.x = search rules in let fby : FitsSigned w32 c.args.b.now.y = search rules in
    let fcx : FitsSigned w32 c.args.c.now.x = search rules in let fcy : FitsSigned w32 c.args.c.now.y = search rules in
    let fr : FitsSigned w64 c.edge_value.result = search rules in
    simp to_z-of_z (simp to_z-of_z at c.edge_value.ensures.value)
