use Rattle.std.proofs.Common.{rules, ◌≡◌, ℤ, FitsSigned, w32, refl}
use Rattle.std.proofs.lemmas.Int.{to_z-of_z}
use Rattle.std.specs.Int.{int_min, int_max}
use Rattle.cull_base.specs.declared.rect.Rect.{Rect}
use Rattle.group_query.specs.Hulls.{holding}
use Rattle.group_query.proofs.hulls.holding.Goals as goal

abbrev rectangle : ℤ → ℤ → ℤ → ℤ → Rect
rectangle x0 y0 x1 y1 = record { x0 = x0; y0 = y0; x1 = x1; y1 = y1 }

is_holding : (a b : Rect) (x0 y0 x1 y1 : ℤ) → x0 ≡ int_min a.x0 b.x0 → y0 ≡ int_min a.y0 b.y0 → x1 ≡ int_max a.x1 b.x1 → y1 ≡ int_max a.y1 b.y1 → rectangle x0 y0 x1 y1 ≡ holding a b
is_holding a b x0 y0 x1 y1 e f g h = rw (e, f, g, h) refl

pub returns : goal.returns
returns c =
    let a = c.args.a.now in let b = c.args.b.now in
    let ax0 : FitsSigned w32 a.x0 = search rules in let ax1 : FitsSigned w32 a.x1 = search rules in
    let bx0 : FitsSigned w32 b.x0 = search rules in let bx1 : FitsSigned w32 b.x1 = search rules in
    let ay0 : FitsSigned w32 a.y0 = search rules in let ay1 : FitsSigned w32 a.y1 = search rules in
    let by0 : FitsSigned w32 b.y0 = search rules in let by1 : FitsSigned w32 b.y1 = search rules in
    let f0 : FitsSigned w32 c.lesser.result = search rules in let f1 : FitsSigned w32 c.lesser-2.result = search rules in
    let f2 : FitsSigned w32 c.greater.result = search rules in let f3 : FitsSigned w32 c.greater-2.result = search rules in
    let is : rectangle c.lesser.result c.lesser-2.result c.greater.result c.greater-2.result ≡ holding a b =
    is_holding a b _ _ _ _ (simp to_z-of_z at c.lesser.ensures) (simp to_z-of_z at c.lesser-2.ensures) (simp to_z-of_z at c.greater.ensures) (simp to_z-of_z at c.greater-2.ensures) in
    simp to_z-of_z is
