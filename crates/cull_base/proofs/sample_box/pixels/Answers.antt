use Rattle.std.proofs.Common.{◌≡◌, ◌∙◌, ℤ, refl, arith}
use Rattle.cull_base.specs.declared.rect.Rect.{Rect}
use Rattle.cull_base.proofs.SignedLanes.{none_past, pixel_fits, pixel_lane}
use Rattle.cull_base.proofs.sample_box.pixels.Goals as goal

abbrev rect : ℤ → ℤ → ℤ → ℤ → Rect
rect a b c d = record { x0 = a; y0 = b; x1 = c; y1 = d }

same : (a b c d x y z w : ℤ) → a ≡ x → b ≡ y → c ≡ z → d ≡ w → rect a b c d ≡ rect x y z w
same a b c d x y z w e f g h = rw (e, f, g, h) refl

pub overflow_add-ends : goal.overflow_add-ends
overflow_add-ends c =
    let a = c.args in let r = c.ranges in
    (pixel_fits a.left 0 (omega arith) r.left, (pixel_fits a.top 0 (omega arith) r.top, (pixel_fits a.right 1 (omega arith) r.right, (pixel_fits a.bottom 1 (omega arith) r.bottom, tt))))

pub returns : goal.returns
returns c =
    let a = c.args in let r = c.ranges in
    same _ _ _ _ _ _ _ _ (pixel_lane a.left 0 (omega arith) r.left ∙ none_past _) (pixel_lane a.top 0 (omega arith) r.top ∙ none_past _) (pixel_lane a.right 1 (omega arith) r.right) (pixel_lane a.bottom 1 (omega arith) r.bottom)
