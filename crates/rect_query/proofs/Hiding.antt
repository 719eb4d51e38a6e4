-- What it means that a rectangle is hidden.
use Rattle.std.proofs.Common.{◌≡◌, ℕ, Bool, true, cond, arith, refl, IsTrue}
use Rattle.std.specs.Cmp.{both_ways}
use Rattle.cull_base.specs.declared.rect.Rect.{Rect}
use Rattle.cull_base.specs.declared.place.Sub.{Sub}
use Rattle.cull_base.specs.declared.scene_types.Verdict.TheVariants.{Visible, Occluded}
use Rattle.cull_base.specs.Screen.{Dimensions, screen_of}
use Rattle.cull_base.specs.Rectangle.{meets}
use Rattle.cull_base.specs.State.{State, hides}
use Rattle.cull_base.specs.Pixels.{sub_of_pixel, sample_of_pixel}
use Rattle.cull_base.specs.Shape.{Flat, flat_shape, is_hidden, verdict_of}
use Rattle.cull_base.proofs.HiddenObjects.{hidden_each, hidden_if}
use Rattle.rect_query.specs.declared.area.Area.{Area}
use Rattle.rect_query.specs.Area.{IsIn, IsAreaOf}

-- a rectangle is hidden where the samples of its area are
pub area_hidden : (b : Bool) (a : Area) (r : Rect) (size : Dimensions) (q : ℕ) (f : Sub → State) → IsAreaOf a r size
    → (IsTrue b → (px py : ℕ) → IsIn a px py → hides (f (sub_of_pixel px py)) (sample_of_pixel px py) q ≡ true)
    → (((px py : ℕ) → IsIn a px py → hides (f (sub_of_pixel px py)) (sample_of_pixel px py) q ≡ true) → IsTrue b)
    → is_hidden size f (Flat r q) ≡ b
area_hidden b a r size q f is to from = both_ways (is_hidden size f (Flat r q)) b
    (λ h. from (λ px py inside. hidden_each size f (Flat r q) h px py (omega (arith, inside.right, is.area.width_within)) (omega (arith, inside.below, is.area.height_within)) (is.has px py inside)))
    (λ h. let one = first_pixel in hidden_if size f (Flat r q) a.x0 a.y0 (omega (arith, is.area.wide, is.area.width_within)) (omega (arith, is.area.high, is.area.height_within)) (is.has a.x0 a.y0 one)
    (λ px py x y has. to h px py (is.from px py x y has)))
  where
    first_pixel : IsIn a a.x0 a.y0
    first_pixel = record { left = omega arith; right = is.area.wide; above = omega arith; below = is.area.high }

pub flat_tested : (size : Dimensions) (r : Rect) (q : ℕ) (f : Sub → State) (b : Bool) → meets r (screen_of size) ≡ true → is_hidden size f (Flat r q) ≡ b → verdict_of size f (flat_shape size r q) ≡ cond b Occluded Visible
flat_tested size r q f b m h = rw (m, h) refl
