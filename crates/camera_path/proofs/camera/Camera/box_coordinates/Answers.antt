use Rattle.std.proofs.Common.{FitsSigned, w64, rules, refl}
use Rattle.std.proofs.lemmas.Int.{to_z-of_z}
use Rattle.camera_path.proofs.Coordinates.{product_fits}
use Rattle.camera_path.proofs.camera.Camera.box_coordinates.Goals as goal

pub returns : goal.returns
returns c =
    let p = c.products-a.ensures in let q = c.products-b.ensures in
    let ax : FitsSigned w64 c.products-a.result.x = product_fits _ p.x_bounded in
    let ay : FitsSigned w64 c.products-a.result.y = product_fits _ p.y_bounded in
    let az : FitsSigned w64 c.products-a.result.z = product_fits _ p.z_bounded in
    let bx : FitsSigned w64 c.products-b.result.x = product_fits _ q.x_bounded in
    let by : FitsSigned w64 c.products-b.result.y = product_fits _ q.y_bounded in
    let bz : FitsSigned w64 c.products-b.result.z = product_fits _ q.z_bounded in
    let f0 : FitsSigned w64 c.added_up.result = search rules in let f1 : FitsSigned w64 c.added_up-2.result = search rules in
    let f2 : FitsSigned w64 c.added_up-3.result = search rules in let f3 : FitsSigned w64 c.added_up-4.result = search rules in
    let f4 : FitsSigned w64 c.added_up-5.result = search rules in let f5 : FitsSigned w64 c.added_up-6.result = search rules in
    let f6 : FitsSigned w64 c.added_up-7.result = search rules in let f7 : FitsSigned w64 c.added_up-8.result = search rules in
    simp to_z-of_z (rw (c.added_up.ensures, c.added_up-2.ensures, c.added_up-3.ensures, c.added_up-4.ensures, c.added_up-5.ensures, c.added_up-6.ensures, c.added_up-7.ensures, c.added_up-8.ensures)
    (simp to_z-of_z (rw (p.x, p.y, p.z, q.x, q.y, q.z) refl)))
