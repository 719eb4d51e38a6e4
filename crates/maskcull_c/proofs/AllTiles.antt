-- Rectangles, asked of all tiles of the screen.
use Rattle.std.proofs.Common.{◌≡◌, ℕ, ℤ, pos, ◌<◌, ◌≤ℤ◌, ◌<ℤ◌, List, length, true, false, cond, nat_lt, int_lt, arith, refl, ap, ◌∙◌}
use Rattle.std.proofs.lemmas.Bool.Decides.{nat_tests}
use Rattle.std.proofs.lemmas.Int.{ints}
use Rattle.cull_base.specs.declared.rect.Rect.{Rect}
use Rattle.cull_base.specs.Screen.{Dimensions, screen_of, tile_count_of}
use Rattle.cull_base.specs.Rectangle.{meets}
use Rattle.cull_base.specs.Shape.{AlwaysOutside, AlwaysVisible, flat_shape}
use Rattle.masked_update.specs.TileOf.{TileOf}
use Rattle.masked_update.specs.Views.{HoldsMet}
use Rattle.rect_query.specs.Rectangles.{nearness_at, rectangle_shape}
use Rattle.maskcull_c.specs.Tiles.{AreAll}

below : (m n : ℕ) → m < n → nat_lt m n ≡ true
below m n lt = grind (arith, nat_tests)

-- they hold each tile that a rectangle meets
pub holds_met : (size : Dimensions) (tiles seen : List TileOf) (r : Rect) → AreAll size tiles → seen ≡ tiles → HoldsMet (λ k. nat_lt k (length seen)) size r
holds_met size tiles seen r all is t lt met =
    let long : length seen ≡ tile_count_of size = ap length is ∙ all in
    below t (length seen) (omega (arith, long, lt))

not_less : (a b : ℤ) → b ≤ℤ a → int_lt a b ≡ false
not_less a b le = grind (arith, ints)

is_less : (a b : ℤ) → a <ℤ b → int_lt a b ≡ true
is_less a b lt = grind (arith, ints)

-- a rectangle that isn't before the near distance has one nearness
pub rectangle_beyond : (top : ℕ) (size : Dimensions) (near : ℕ) (r : Rect) (w : ℤ) (q : ℕ) → pos near ≤ℤ w → q ≡ nearness_at top near w → rectangle_shape top near size r w ≡ flat_shape size r q
rectangle_beyond top size near r w q le is =
    let t = not_less w (pos near) le in
    rw (t, is) refl

-- one that is before it
pub rectangle_before : (top : ℕ) (size : Dimensions) (near : ℕ) (r : Rect) (w : ℤ) → w <ℤ pos near → rectangle_shape top near size r w ≡ cond (meets r (screen_of size)) AlwaysVisible AlwaysOutside
rectangle_before top size near r w lt =
    let t = is_less w (pos near) lt in
    rw t refl
