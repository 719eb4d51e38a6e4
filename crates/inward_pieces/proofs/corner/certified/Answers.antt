use Rattle.std.proofs.Common.{FitsSigned, w32, rules}
use Rattle.std.proofs.lemmas.Int.{to_z-of_z}
use Rattle.inward_pieces.proofs.Fans.{corner_at}
use Rattle.inward_pieces.proofs.corner.certified.Goals as goal

pub returns : goal.returns
returns c =
    let fx : FitsSigned w32 c.in_ok-x.x = search rules in
    let fy : FitsSigned w32 c.in_ok-y.y = search rules in
    let e = c.in_ok-q.ensures in
    simp to_z-of_z (corner_at c.args.eye.now c.args.forms.now c.in_ok-x.x c.in_ok-y.y c.in_ok-q.q c.in_ok-x.ensures c.in_ok-y.ensures e.held (simp to_z-of_z at e.certified))
