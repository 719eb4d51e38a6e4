use Rattle.std.proofs.Common.{◌^◌, FitsSigned, w64, rules}
use Rattle.std.proofs.lemmas.Int.{to_z-of_z}
use Rattle.depth_plane.proofs.vertices.Vertices.area.Goals as goal

pub returns-clause-bounded : goal.returns-clause-bounded
returns-clause-bounded c =
    let f : FitsSigned w64 c.product.result = search rules in let g : FitsSigned w64 c.product-2.result = search rules in
    let fm : FitsSigned w64 c.minus.result = search rules in
    let within = simp to_z-of_z at (c.minus.ensures.bounded (2 ^ 60)) in
    simp to_z-of_z (within c.product.ensures.bounded c.product-2.ensures.bounded)
