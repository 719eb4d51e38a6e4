use Rattle.std.proofs.Common.{rules, ◌≡◌, ℤ, true, FitsSigned, w32, sym, ◌∙◌, refl, subst, ◌↔◌}
use Rattle.std.proofs.lemmas.Int.{to_z-of_z}
use Rattle.std.specs.Int.{int_min, int_max}
use Rattle.cull_base.specs.declared.rect.Rect.{Rect}
use Rattle.cull_base.specs.Rectangle.{HasPixel, meets, cut_of}
use Rattle.cull_base.proofs.Rectangles.{cut_pixels}
use Rattle.cull_base.proofs.rect.Rect.cut.Goals as goal

abbrev rectangle : ℤ → ℤ → ℤ → ℤ → Rect
rectangle x0 y0 x1 y1 = record { x0 = x0; y0 = y0; x1 = x1; y1 = y1 }

is_common : (a b : Rect) (x0 y0 x1 y1 : ℤ) → meets a b ≡ true → x0 ≡ int_max a.x0 b.x0 → y0 ≡ int_max a.y0 b.y0 → x1 ≡ int_min a.x1 b.x1 → y1 ≡ int_min a.y1 b.y1
    → rectangle x0 y0 x1 y1 ≡ cut_of a b
is_common a b x0 y0 x1 y1 m e f g h = rw (m, e, f, g, h) refl

pub returns-then-meets : goal.returns-then-meets
returns-then-meets c =
    let a = c.args.self.now in let b = c.args.other.now in
    let ax0 : FitsSigned w32 a.x0 = search rules in let ax1 : FitsSigned w32 a.x1 = search rules in
    let bx0 : FitsSigned w32 b.x0 = search rules in let bx1 : FitsSigned w32 b.x1 = search rules in
    let ay0 : FitsSigned w32 a.y0 = search rules in let ay1 : FitsSigned w32 a.y1 = search rules in
    let by0 : FitsSigned w32 b.y0 = search rules in let by1 : FitsSigned w32 b.y1 = search rules in
    let f0 : FitsSigned w32 c.greater.result = search rules in let f1 : FitsSigned w32 c.greater-then-meets.result = search rules in
    let f2 : FitsSigned w32 c.lesser.result = search rules in let f3 : FitsSigned w32 c.lesser-then-meets.result = search rules in
    let m : meets a b ≡ true = sym c.meets.ensures.value ∙ c.if-meets.true in
    let is : rectangle c.greater.result c.greater-then-meets.result c.lesser.result c.lesser-then-meets.result ≡ cut_of a b =
    is_common a b _ _ _ _ m (simp to_z-of_z at c.greater.ensures) (simp to_z-of_z at c.greater-then-meets.ensures) (simp to_z-of_z at c.lesser.ensures) (simp to_z-of_z at c.lesser-then-meets.ensures) in
    simp to_z-of_z (record { value = is; pixels = λ x y. subst (λ (r : Rect). HasPixel r x y ↔ (HasPixel a x y × HasPixel b x y)) (sym is) (cut_pixels a b x y); none = λ n. absurd (cc) })
