-- Positions, and their clip points as they are held.
use Rattle.std.proofs.Common.{◌≡◌, ℕ, ℤ, ◌+◌, ◌-◌, ◌*◌, ◌/◌, ◌<◌, ◌≤◌, List, [], ◌∷◌, map, Option, Some, None, IfSome, Bool, true, false, cond, nat_lt, arith, refl, subst}
use Rattle.std.specs.Prelude.{IsSome}
use Rattle.std.specs.List.{All, AllZip}
use Rattle.std.proofs.lemmas.Bool.Decides.{nat_tests}
use Rattle.std.proofs.lemmas.Int.{ints}
use Rattle.std.proofs.Math.Nat.{mul-le-mul_left}
use Rattle.cull_base.specs.Grade.{top_of}
use Rattle.cull_base.specs.Screen.{Dimensions, screen_of as rect_of_screen}
use Rattle.cull_base.proofs.Rectangles.{meets_pixel}
use Rattle.float_bits.specs.Floats.{IsNumber}
use Rattle.exact_clip.specs.Clip.{Clip, clip_of, distance_of}
use Rattle.exact_clip.specs.Boxes.{corners_of as ends_of}
use Rattle.exact_clip.specs.Held.{Holds}
use Rattle.exact_clip.specs.declared.held.Held.{Held}
use Rattle.box_rays.specs.Answers.{IsInRange, Says}
use Rattle.box_rays.specs.Objects.{IsBeside, IsNearest, IsReached}
use Rattle.box_rays.specs.declared.reached.Reached.{Reached}
use Rattle.box_rays.specs.declared.reached.Reached.TheVariants.{Outside, Visible, At}
use Rattle.maskcull_c.specs.Floats.{MayStandFor, corners_of, points_of, position_at, position_count, screen_of}
use Rattle.maskcull_c.specs.Given.{grade_of}
use Rattle.maskcull_c.specs.Lenses.{IsPoint, MeetsScreen, shape_of, unit_of}
use Rattle.maskcull_c.specs.declared.given.Setup.{Setup}
use Rattle.maskcull_c.specs.declared.given.Triangle.{Triangle}
use Rattle.maskcull_c.specs.declared.lens.Lens.{Lens}
use Rattle.maskcull_c.specs.declared.view.Bounds.{Bounds}
use Rattle.maskcull_c.specs.declared.view.View.{View}

-- a position's three floats are there
pub position_within : (stride n k : ℕ) → 3 ≤ stride → k < position_count stride n → stride * k + 2 < n
position_within stride n k wide lt = by (nat_lt n 3) refl lt
  where
    by : (b : Bool) → nat_lt n 3 ≡ b → k < cond b 0 ((n - 3) / stride + 1) → stride * k + 2 < n
    by true e h = absurd (omega (arith, h))
    by false e h =
        let enough : 3 ≤ n = grind (arith, nat_tests) in
        let le : k ≤ (n - 3) / stride = omega (arith, h) in
        let up = mul-le-mul_left stride le in
        let part : stride * ((n - 3) / stride) ≤ n - 3 = omega (arith, wide) in
        omega (arith, enough, up, part)

-- what is held of a position, by a matrix and three floats that are equal to the view's
pub point_held : (lens : Lens) (floats : List ℕ) (k : ℕ) (r : Option Held) (p : List ℕ) (X : Type 0) → lens.rows.matrix ≡ lens.view.rows → p ≡ position_at lens.view.stride floats k
    → (IsSome r → All IsNumber p × X) → IfSome r (λ v. Holds (unit_of lens) v (clip_of lens.rows.matrix p)) → IfSome r (IsPoint lens floats k)
point_held lens floats k None p X matrix is known held = tt
point_held lens floats k (Some v) p X matrix is known held = record {
  numbers = subst (All IsNumber) is (known refl).0;
  holds = subst (λ (m : List ℕ). Holds (unit_of lens) v (clip_of m (position_at lens.view.stride floats k))) matrix (subst (λ (q : List ℕ). Holds (unit_of lens) v (clip_of lens.rows.matrix q)) is held);
}

-- what is told of where an object is seen, by another name of the size, the top and the near distance
pub stands_for : (s : Setup) (v : View) (size : Dimensions) (top : ℕ) (near : ℤ) (points : List Clip) (r : Reached) → size ≡ screen_of v → top ≡ top_of (grade_of s) → near ≡ distance_of v.near_distance
    → Says size top near v.share points r → MayStandFor s v points (shape_of r)
stands_for s v size top near points Outside sizes tops nears says = subst (λ (d : Dimensions). IsBeside d points) sizes says
stands_for s v size top near points Visible sizes tops nears says = tt
stands_for s v size top near points (At rect q) sizes tops nears says = (
  subst (λ (d : Dimensions). IsReached d points rect) sizes says.0,
  subst (λ n. IsNearest (top_of (grade_of s)) n v.share q points) nears (subst (λ (t : ℕ). IsNearest t near v.share q points) tops says.1),
)

-- a rectangle with a pixel on a screen has one on a greater one
pub range_meets : (size greater : Dimensions) (top : ℕ) (r : Reached) → size.width ≤ greater.width → size.height ≤ greater.height → IsInRange size top r → MeetsScreen greater r
range_meets size greater top Outside wide high range = tt
range_meets size greater top Visible wide high range = tt
range_meets size greater top (At rect q) wide high range =
    let on = range.0 in
    let x = range.1 in
    let y = range.2 in
    let x0 = on.x0_least in let x1 = on.x1_most in let y0 = on.y0_least in let y1 = on.y1_most in
    (meets_pixel rect (rect_of_screen greater)).1
    (rect.x0, rect.y0, (omega (arith, ints), x, omega (arith, ints), y), (x0, omega (arith, ints, x, x1, wide), y0, omega (arith, ints, y, y1, high)))

-- where a triangle's three points are held
pub three_held : (lens : Lens) (floats : List ℕ) (t : Triangle) (a b c : Held) → IsPoint lens floats t.a a → IsPoint lens floats t.b b → IsPoint lens floats t.c c
    → AllZip (Holds (unit_of lens)) (a ∷ b ∷ c ∷ []) (points_of lens.view floats t)
three_held lens floats t a b c pa pb pc = (pa.holds, (pb.holds, (pc.holds, tt)))

-- where a box's corners are held
pub box_stands : (lens : Lens) (s : Setup) (v : View) (b : Bounds) (corners : List Held) (r : Reached) → lens.setup ≡ s → lens.view ≡ v
    → AllZip (Holds (unit_of lens)) corners (map (clip_of lens.rows.matrix) (ends_of b.low b.high))
    → ((points : List Clip) → AllZip (Holds (unit_of lens)) corners points → MayStandFor lens.setup lens.view points (shape_of r)) → MayStandFor s v (corners_of v b) (shape_of r)
box_stands lens s v b corners r setups views zip stands =
    let here = stands (map (clip_of lens.rows.matrix) (ends_of b.low b.high)) zip in
    let by_view : MayStandFor lens.setup lens.view (corners_of lens.view b) (shape_of r)
    = subst (λ (m : List ℕ). MayStandFor lens.setup lens.view (map (clip_of m) (ends_of b.low b.high)) (shape_of r)) lens.matrix_is here in
    subst (λ (t : Setup). MayStandFor t v (corners_of v b) (shape_of r)) setups
    (subst (λ (w : View). MayStandFor lens.setup w (corners_of w b) (shape_of r)) views by_view)
