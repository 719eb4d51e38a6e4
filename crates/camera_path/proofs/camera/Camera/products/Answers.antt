use Rattle.std.proofs.Common.{◌≡◌, ℤ, ◌*ℤ◌, FitsSigned, w64, rules, refl}
use Rattle.std.proofs.lemmas.Int.{to_z-of_z}
use Rattle.camera_path.proofs.camera.Camera.products.Goals as goal

times : (p a x m n : ℤ) → p ≡ a *ℤ x → a ≡ m → x ≡ n → p ≡ m *ℤ n
times p a x m n e ea ex = rw (e, ea, ex) refl

pub returns : goal.returns
returns c =
    let fp : FitsSigned w64 c.product.result = search rules in let fq : FitsSigned w64 c.product-2.result = search rules in let ft : FitsSigned w64 c.product-3.result = search rules in
    let fa : FitsSigned w64 c.number.result = search rules in let fx : FitsSigned w64 c.number-2.result = search rules in
    let fb : FitsSigned w64 c.number-3.result = search rules in let fy : FitsSigned w64 c.number-4.result = search rules in
    let fc : FitsSigned w64 c.number-5.result = search rules in let fz : FitsSigned w64 c.number-6.result = search rules in
    simp to_z-of_z (record {
      x = times c.product.result c.number.result c.number-2.result _ _ (simp to_z-of_z at c.product.ensures.value) c.number.ensures.value c.number-2.ensures.value;
      y = times c.product-2.result c.number-3.result c.number-4.result _ _ (simp to_z-of_z at c.product-2.ensures.value) c.number-3.ensures.value c.number-4.ensures.value;
      z = times c.product-3.result c.number-5.result c.number-6.result _ _ (simp to_z-of_z at c.product-3.ensures.value) c.number-5.ensures.value c.number-6.ensures.value;
      x_bounded = c.product.ensures.bounded;
      y_bounded = c.product-2.ensures.bounded;
      z_bounded = c.product-3.ensures.bounded;
    })
