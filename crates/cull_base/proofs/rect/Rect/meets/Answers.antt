use Rattle.std.proofs.Common.{rules, ◌≡◌, true, FitsSigned, w32, sym, ◌∙◌, int_lt}
use Rattle.std.proofs.lemmas.Int.{to_z-of_z}
use Rattle.std.specs.Int.{int_min, int_max}
use Rattle.cull_base.specs.Rectangle.{meets}
use Rattle.cull_base.proofs.Rectangles.{meets_pixel}
use Rattle.cull_base.proofs.rect.Rect.meets.Goals as goal

pub returns-then-overlap : goal.returns-then-overlap
returns-then-overlap c =
    let a = c.args.self.now in let b = c.args.other.now in
    let ax0 : FitsSigned w32 a.x0 = search rules in let ax1 : FitsSigned w32 a.x1 = search rules in
    let bx0 : FitsSigned w32 b.x0 = search rules in let bx1 : FitsSigned w32 b.x1 = search rules in
    let ay0 : FitsSigned w32 a.y0 = search rules in let ay1 : FitsSigned w32 a.y1 = search rules in
    let by0 : FitsSigned w32 b.y0 = search rules in let by1 : FitsSigned w32 b.y1 = search rules in
    let along : int_lt (int_max a.x0 b.x0) (int_min a.x1 b.x1) ≡ true = sym (simp to_z-of_z at c.overlap.ensures) ∙ c.if-overlap.true in
    let down : c.overlap-then-overlap.result ≡ int_lt (int_max a.y0 b.y0) (int_min a.y1 b.y1) = simp to_z-of_z at c.overlap-then-overlap.ensures in
    let is : c.overlap-then-overlap.result ≡ meets a b = rw along down in
    record { value = is; pixel = rw is (meets_pixel a b) }
