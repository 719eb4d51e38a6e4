-- A place rises with the quotient that it is of.
use Rattle.std.proofs.Common.{◌≡◌, ℕ, ℤ, pos, negsuc, neg_ℤ, ◌*◌, ◌+◌, ◌^◌, ◌<◌, ◌≤◌, ◌≤ℤ◌, ◌<ℤ◌, ◌+ℤ◌, ◌-ℤ◌, ◌*ℤ◌, Bool, true, false, int_lt, FitsSigned, w64, arith, ap, ◌∙◌}
use Rattle.std.specs.Int.{int_min, int_max, int_div_euclid}
use Rattle.std.proofs.lemmas.Int.{ints, clamps}
use Rattle.cull_base.specs.declared.clip.ClipVertex.{ClipVertex}
use Rattle.cull_base.specs.Bounds.{Bounded}
use Rattle.cull_base.specs.Screen.{Dimensions}
use Rattle.cull_base.proofs.Ring.{diff-add, diff-mul, diff-same, pos_is, over3}
use Rattle.edge_lanes.proofs.Floors.{times-swap, le-times, le-from_times, floor-le, from_below_floor}
use Rattle.near_clip.specs.NearPart.{whole}
use Rattle.snap_setup.specs.Snapping.{round_half, screen_y}
use Rattle.rect_query.specs.declared.ratio.Ratio.{Ratio}
use Rattle.rect_query.specs.declared.ratio.Way.{Way}
use Rattle.rect_query.specs.declared.ratio.Way.TheVariants.{Across, Down}
use Rattle.rect_query.specs.Ratios.{IsRatio, down, pixels_along, place_along, place_at, ratio_along}

-- the floor of a quotient is no greater than that of one that is no less
floors_rise : (m n : ℤ) (p q : ℕ) → 0 < p → 0 < q → (m *ℤ pos q) ≤ℤ (n *ℤ pos p) → int_div_euclid m (pos p) ≤ℤ int_div_euclid n (pos q)
floors_rise m n p q hp hq le =
    let f = int_div_euclid m (pos p) in
    let low = le-times (f *ℤ pos p) m q (floor-le m p hp) in
    let same = times-swap f (pos p) (pos q) in
    from_below_floor f n q hq (le-from_times (f *ℤ pos q) n p (joined ((f *ℤ pos q) *ℤ pos p) ((f *ℤ pos p) *ℤ pos q) (m *ℤ pos q) (n *ℤ pos p) p hp same low le))
  where
    joined : (x y z t : ℤ) (r : ℕ) → 0 < r → y ≡ x → y ≤ℤ z → z ≤ℤ t → x <ℤ (t +ℤ pos r)
    joined x y z t r h e a b = omega (arith, ints, h, e, a, b)

-- the numerator of a place at w, times the denominator of one at v
numerator_times : (k : ℕ) (n w v : ℤ) → ((pos 2 *ℤ (pos k *ℤ (n +ℤ w))) +ℤ w) *ℤ (pos 2 *ℤ v) ≡ ((n *ℤ v) *ℤ pos (4 * k)) +ℤ (pos (4 * k + 2) *ℤ (w *ℤ v))
numerator_times k =
    over3 (λ n w v. ((pos 2 *ℤ (pos k *ℤ (n +ℤ w))) +ℤ w) *ℤ (pos 2 *ℤ v) ≡ ((n *ℤ v) *ℤ pos (4 * k)) +ℤ (pos (4 * k + 2) *ℤ (w *ℤ v)))
    (λ n n' w w' v v'. simp (pos_is, diff-add, diff-mul) (diff-same _ _ _ _ (omega arith)))

rise : (pixels : ℕ) (m n w v : ℤ) → pos 1 ≤ℤ w → pos 1 ≤ℤ v → (m *ℤ v) ≤ℤ (n *ℤ w) →
    round_half (pos (8 * pixels) *ℤ (m +ℤ w)) w ≤ℤ round_half (pos (8 * pixels) *ℤ (n +ℤ v)) v
rise pixels m n (pos w) (pos v) hw hv le =
    let k : ℕ = 8 * pixels in
    let more = le-times (m *ℤ pos v) (n *ℤ pos w) (4 * k) le in
    let same : (4 * k + 2) * (w * v) ≡ (4 * k + 2) * (v * w) = omega arith in
    floors_rise ((pos 2 *ℤ (pos k *ℤ (m +ℤ pos w))) +ℤ pos w) ((pos 2 *ℤ (pos k *ℤ (n +ℤ pos v))) +ℤ pos v) (2 * w) (2 * v) (omega (arith, ints, hw)) (omega (arith, ints, hv))
    (sums _ _ _ _ _ _ (numerator_times k m (pos w) (pos v)) (numerator_times k n (pos v) (pos w)) more (ap (λ (x : ℕ). pos x) same))
  where
    sums : (x y a b s t : ℤ) → x ≡ a +ℤ s → y ≡ b +ℤ t → a ≤ℤ b → s ≡ t → x ≤ℤ y
    sums x y a b s t e f le g = omega (arith, ints, e, f, le, g)
rise pixels m n (pos w) (negsuc v) hw hv le = absurd (omega (arith, ints, hv))
rise pixels m n (negsuc w) v hw hv le = absurd (omega (arith, ints, hw))

pub places_rise : (near pixels : ℕ) (a b : Ratio) → 1 ≤ near → IsRatio near a → IsRatio near b → (a.number *ℤ b.w) ≤ℤ (b.number *ℤ a.w) → place_at pixels a ≤ℤ place_at pixels b
places_rise near pixels a b some ha hb le = rise pixels a.number b.number a.w b.w (omega (arith, ints, some, ha.w_least)) (omega (arith, ints, some, hb.w_least)) le

-- what a test of two products says
less_is : (x y : ℤ) (t : Bool) → t ≡ int_lt x y → t ≡ true → x ≤ℤ y
less_is x y t e h = grind (arith, ints, e, h)

not_less_is : (x y : ℤ) (t : Bool) → t ≡ int_lt x y → t ≡ false → y ≤ℤ x
not_less_is x y t e h = grind (arith, ints, e, h)

first_least : (x y : ℤ) → x ≤ℤ y → x ≡ int_min x y
first_least x y h = omega (arith, ints, clamps, h)

second_least : (x y : ℤ) → y ≤ℤ x → y ≡ int_min x y
second_least x y h = omega (arith, ints, clamps, h)

first_greatest : (x y : ℤ) → y ≤ℤ x → x ≡ int_max x y
first_greatest x y h = omega (arith, ints, clamps, h)

second_greatest : (x y : ℤ) → x ≤ℤ y → y ≡ int_max x y
second_greatest x y h = omega (arith, ints, clamps, h)

-- of two ratios the one that the code takes
pub lesser_second : (near : ℕ) (a b : Ratio) (t : Bool) → 1 ≤ near → IsRatio near a → IsRatio near b → t ≡ int_lt (b.number *ℤ a.w) (a.number *ℤ b.w) → t ≡ true → (pixels : ℕ) → place_at pixels b ≡ int_min (place_at pixels a) (place_at pixels b)
lesser_second near a b t some ha hb e h pixels = second_least _ _ (places_rise near pixels b a some hb ha (less_is _ _ t e h))

pub lesser_first : (near : ℕ) (a b : Ratio) (t : Bool) → 1 ≤ near → IsRatio near a → IsRatio near b → t ≡ int_lt (b.number *ℤ a.w) (a.number *ℤ b.w) → t ≡ false → (pixels : ℕ) → place_at pixels a ≡ int_min (place_at pixels a) (place_at pixels b)
lesser_first near a b t some ha hb e h pixels = first_least _ _ (places_rise near pixels a b some ha hb (not_less_is _ _ t e h))

pub greater_second : (near : ℕ) (a b : Ratio) (t : Bool) → 1 ≤ near → IsRatio near a → IsRatio near b → t ≡ int_lt (a.number *ℤ b.w) (b.number *ℤ a.w) → t ≡ true → (pixels : ℕ) → place_at pixels b ≡ int_max (place_at pixels a) (place_at pixels b)
greater_second near a b t some ha hb e h pixels = second_greatest _ _ (places_rise near pixels a b some ha hb (less_is _ _ t e h))

pub greater_first : (near : ℕ) (a b : Ratio) (t : Bool) → 1 ≤ near → IsRatio near a → IsRatio near b → t ≡ int_lt (a.number *ℤ b.w) (b.number *ℤ a.w) → t ≡ false → (pixels : ℕ) → place_at pixels a ≡ int_max (place_at pixels a) (place_at pixels b)
greater_first near a b t some ha hb e h pixels = first_greatest _ _ (places_rise near pixels b a some hb ha (not_less_is _ _ t e h))

-- products of such numbers fit
pub number_small : (near : ℕ) (r : Ratio) → near ≤ 1024 → IsRatio near r → Bounded (2 ^ 30) r.number
number_small near r few h = (omega (arith, ints, few, h.number_within), omega (arith, ints, few, h.number_within))

pub w_small : (near : ℕ) (r : Ratio) → near ≤ 1024 → IsRatio near r → Bounded (2 ^ 30) r.w
w_small near r few h = (omega (arith, ints, few, h.w_least, h.w_most), omega (arith, ints, few, h.w_least, h.w_most))

pub fits_small : (z : ℤ) → Bounded (2 ^ 30) z → FitsSigned w64 z
fits_small z h = omega (arith, ints, h)

-- a ratio's place down the screen is that of the point with its opposite as y
pub place_down_is : (pixels : ℕ) (r : Ratio) → round_half (pos (8 * pixels) *ℤ (r.w -ℤ (pos 0 -ℤ r.number))) r.w ≡ place_at pixels r
place_down_is pixels r = ap (λ (z : ℤ). round_half (pos (8 * pixels) *ℤ z) r.w) (sum r.number r.w)
  where
    sum : (n w : ℤ) → w -ℤ (pos 0 -ℤ n) ≡ n +ℤ w
    sum n w = omega (arith, ints)

-- a corner's place down the screen
screen_down : (v : ClipVertex) (size : Dimensions) → place_at size.height (down v) ≡ screen_y (whole v) size
screen_down v size = ap (λ (z : ℤ). round_half (pos (8 * size.height) *ℤ z) v.w) (sum v.y v.w)
  where
    sum : (y w : ℤ) → neg_ℤ y +ℤ w ≡ w -ℤ y
    sum y w = omega (arith, ints)

-- and its place either way
pub placed_along : (way : Way) (v : ClipVertex) (size : Dimensions) (r : Ratio) → r ≡ ratio_along way v → place_at (pixels_along way size) r ≡ place_along way size v
placed_along Across v size r e = ap (λ (q : Ratio). place_at size.width q) e
placed_along Down v size r e = ap (λ (q : Ratio). place_at size.height q) e ∙ screen_down v size
