use Rattle.std.proofs.Common.{FitsSigned, w64, rules}
use Rattle.std.proofs.lemmas.Int.{to_z-of_z}
use Rattle.camera_path.proofs.Coordinates.{by_products, product_fits}
use Rattle.camera_path.proofs.camera.Camera.coordinate.Goals as goal

pub returns : goal.returns
returns c =
    let p = c.products-x.ensures in
    let fx : FitsSigned w64 c.products-x.result.x = product_fits _ p.x_bounded in
    let fy : FitsSigned w64 c.products-x.result.y = product_fits _ p.y_bounded in
    let fz : FitsSigned w64 c.products-x.result.z = product_fits _ p.z_bounded in
    let e = simp to_z-of_z at c.added_up.ensures in
    let fs : FitsSigned w64 c.added_up.result = search rules in
    simp to_z-of_z (by_products c.args.self.now.0 c.args.v.now c.args.r c.added_up.result c.products-x.result.x c.products-x.result.y c.products-x.result.z e p.x p.y p.z)
