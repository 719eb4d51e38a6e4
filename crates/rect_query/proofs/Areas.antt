-- The pixels of the screen that a rectangle has.
use Rattle.std.proofs.Common.{◌≡◌, ℕ, ℤ, pos, ◌≤◌, ◌<◌, ◌≤ℤ◌, ◌<ℤ◌, Bool, true, ◌&&◌, cond, arith, refl, ap, ◌∙◌, int_lt, int_le}
use Rattle.std.specs.Int.{int_min, int_max}
use Rattle.std.proofs.lemmas.Bool.{and_parts}
use Rattle.std.proofs.lemmas.Int.{ints}
use Rattle.cull_base.proofs.Rectangles.{meets_pixel}
use Rattle.cull_base.proofs.Pixels.{tile_of_pixel-is}
use Rattle.cull_base.specs.Pixels.{tile_of_pixel}
use Rattle.cull_base.specs.declared.rect.Rect.{Rect}
use Rattle.cull_base.specs.Screen.{Dimensions, IsSize, screen_of, tile_rect_of}
use Rattle.cull_base.specs.Rectangle.{meets, cut_of, common, no_pixels}
use Rattle.masked_update.specs.Views.{HoldsMet}
use Rattle.rect_query.specs.declared.area.Area.{Area}
use Rattle.rect_query.specs.Area.{IsAreaOf, HoldsArea}

-- one axis: from the greater first to before the lesser end
pub record Axis (a0 a1 : ℤ) (w m n : ℕ) : Type 0 where
  pub some : m < n
  pub within : n ≤ w
  pub has : (p : ℕ) → m ≤ p → p < n → (int_le a0 (pos p) && int_lt (pos p) a1) ≡ true
  pub from : (p : ℕ) → p < w → (int_le a0 (pos p) && int_lt (pos p) a1) ≡ true → (m ≤ p) × (p < n)

axis : (a0 a1 : ℤ) (w m n : ℕ) → int_lt (int_max a0 (pos 0)) (int_min a1 (pos w)) ≡ true → pos m ≡ int_max a0 (pos 0) → pos n ≡ int_min a1 (pos w) → Axis a0 a1 w m n
axis a0 a1 w m n lt em en = record {
  some = grind (arith, ints);
  within = grind (arith, ints);
  has = λ p ge below. grind (arith, ints);
  from = λ p below t. (grind (arith, ints), grind (arith, ints));
}

pub area_is : (a : Area) (r cut screen : Rect) (size : Dimensions) → IsSize size.width size.height → meets r (screen_of size) ≡ true → cut ≡ cut_of r screen → screen ≡ screen_of size
    → pos a.x0 ≡ cut.x0 → pos a.y0 ≡ cut.y0 → pos a.x1 ≡ cut.x1 → pos a.y1 ≡ cut.y1 → IsAreaOf a r size
area_is a r cut screen size valid m ec es x0 y0 x1 y1 =
    let is : cut ≡ common r (screen_of size) = ec ∙ ap (cut_of r) es ∙ ap (λ (b : Bool). cond b (common r (screen_of size)) no_pixels) m in
    let both = and_parts (int_lt (int_max r.x0 (pos 0)) (int_min r.x1 (pos size.width))) (int_lt (int_max r.y0 (pos 0)) (int_min r.y1 (pos size.height))) m in
    let across = axis r.x0 r.x1 size.width a.x0 a.x1 both.0 (x0 ∙ ap (λ (c : Rect). c.x0) is) (x1 ∙ ap (λ (c : Rect). c.x1) is) in
    let down = axis r.y0 r.y1 size.height a.y0 a.y1 both.1 (y0 ∙ ap (λ (c : Rect). c.y0) is) (y1 ∙ ap (λ (c : Rect). c.y1) is) in
    record {
      area = record {
        wide = across.some;
        high = down.some;
        width_within = across.within;
        height_within = down.within;
        width_small = omega (arith, across.within, valid.within_width);
        height_small = omega (arith, down.within, valid.within_height);
      };
      has = λ px py inside. let h = across.has px inside.left inside.right in let v = down.has py inside.above inside.below in rw (h, v) refl;
      from = λ px py x y t.
          let both = and_parts (int_le r.x0 (pos px) && int_lt (pos px) r.x1) (int_le r.y0 (pos py) && int_lt (pos py) r.y1) t in
          let h = across.from px x both.0 in let v = down.from py y both.1 in
          record { left = h.0; right = h.1; above = v.0; below = v.1 };
    }

pub held_axis : (a0 a1 : ℤ) (p : ℕ) → (int_le a0 (pos p) && int_lt (pos p) a1) ≡ true → (a0 ≤ℤ pos p) × (pos p <ℤ a1)
held_axis a0 a1 p t = (grind (arith, ints), grind (arith, ints))

-- a view that holds the tiles that a rectangle meets holds the tile of each pixel of its area
pub holds_area : (held : ℕ → Bool) (size : Dimensions) (a : Area) (r : Rect) → IsAreaOf a r size → HoldsMet held size r → HoldsArea held size a
holds_area held size a r is holds px py inside =
    let tile = tile_of_pixel-is size px py (omega (arith, inside.right, is.area.width_within)) (omega (arith, inside.below, is.area.height_within)) in
    let both = and_parts (int_le r.x0 (pos px) && int_lt (pos px) r.x1) (int_le r.y0 (pos py) && int_lt (pos py) r.y1) (is.has px py inside) in
    let h = held_axis r.x0 r.x1 px both.0 in let v = held_axis r.y0 r.y1 py both.1 in
    holds (tile_of_pixel size px py) tile.within ((meets_pixel r (tile_rect_of size (tile_of_pixel size px py))).1 (pos px, pos py, (h.0, h.1, v.0, v.1), tile.pixel))
