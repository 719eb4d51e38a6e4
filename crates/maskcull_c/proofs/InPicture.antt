-- What is called occluded by tiles of a frame is hidden in the picture.
use Rattle.std.proofs.Common.{◌≡◌, ℕ, ℤ, pos, zero, suc, ◌+◌, ◌*◌, ◌^◌, ◌<◌, ◌≤◌, ◌*ℤ◌, ◌-ℤ◌, ◌≤ℤ◌, ◌<ℤ◌, List, map, get_or, arith, refl, ap, ap₂, sym, ◌∙◌, subst}
use Rattle.std.specs.List.{All, Contains}
use Rattle.std.proofs.Math.Nat.{mul-le-mul_right}
use Rattle.std.proofs.lemmas.Int.{ints}
use Rattle.std.proofs.lemmas.List.{get_or-map, length-map}
use Rattle.cull_base.specs.declared.scene_types.Verdict.TheVariants.{Visible, Occluded}
use Rattle.cull_base.specs.Bounds.{Bounded}
use Rattle.cull_base.specs.Depth.{numerator, denominator}
use Rattle.cull_base.specs.Fraction.{whole_number, depth_at, IsBelow}
use Rattle.cull_base.specs.Grade.{top_of}
use Rattle.cull_base.specs.Piece.{Piece, Point, IsPiece, middle}
use Rattle.cull_base.specs.Pixels.{tile_of_pixel}
use Rattle.cull_base.specs.Screen.{Dimensions, dimensions}
use Rattle.cull_base.specs.Shape.{Shape, AlwaysOutside, AlwaysVisible, Flat, Pieces}
use Rattle.cull_base.proofs.Pixels.{tile_of_pixel-is}
use Rattle.depth_plane.proofs.Products.{le_times, mul_comm, times_le, times_one}
use Rattle.exact_clip.specs.Clip.{Clip, distance_of}
use Rattle.pixel_forms.specs.Rays.{Place, InSquare, ray_through, Face, IsUncut, size_of, weight_of}
use Rattle.pixel_forms.specs.Within.{Sight, Backs}
use Rattle.box_rays.specs.Objects.{IsNearest, weighted}
use Rattle.masked_update.specs.TileOf.{TileOf}
use Rattle.maskcull_c.specs.Asked.{verdict_over}
use Rattle.maskcull_c.specs.Floats.{IsMeshAnswerFor, IsView, MayStandFor, all_joined, points_of, screen_of, sight_of}
use Rattle.maskcull_c.specs.Given.{grade_of, size_of as screen_size}
use Rattle.maskcull_c.specs.Seen.{AreOfMeshes, Drawn, IsDrawn, IsFrame, IsHiddenBy, IsHiddenInPicture, IsOfFrame, count_of}
use Rattle.maskcull_c.specs.Tiles.{AreAll, Hides, IsAfter, code_of}
use Rattle.maskcull_c.specs.declared.given.Setup.{Setup}
use Rattle.maskcull_c.specs.declared.given.Triangle.{Triangle}
use Rattle.maskcull_c.specs.declared.status.TheConstants.{OCCLUDED}
use Rattle.maskcull_c.specs.declared.view.View.{View}
use Rattle.maskcull_c.proofs.Codes.{occluded_by_code}
use Rattle.maskcull_c.proofs.Hiding.{after_sound}
use Rattle.maskcull_c.proofs.Nearness.{nearer_than_point, nearer_than_sum}
use Rattle.maskcull_c.proofs.Verdicts.{all_parts, parts_not_visible}

-- a square lies in a greater one around the same pixel
wider : (least reach px py : ℕ) (z : Place) → least ≤ reach → InSquare least px py z → InSquare reach px py z
wider least reach px py z le h = record {
  proper = h.proper;
  across = more (z.x -ℤ pos ((16 * px + 8) * z.d)) h.across;
  down = more (z.y -ℤ pos ((16 * py + 8) * z.d)) h.down;
}
  where
    up : least * z.d ≤ reach * z.d
    up = mul-le-mul_right z.d le

    more : (v : ℤ) → Bounded (least * z.d) v → Bounded (reach * z.d) v
    more v b = (omega (arith, ints, up, b.0), omega (arith, ints, up, b.1))

positive_product : (a b : ℕ) → 1 ≤ a → 1 ≤ b → 1 ≤ a * b
positive_product zero b h k = absurd (omega (arith, h))
positive_product (suc a) b h k = omega (arith, k)

-- a ray goes forward
forward : (size : Dimensions) (z : Place) → 1 ≤ size.width → 1 ≤ size.height → 0 < z.d → pos 0 <ℤ (ray_through size z).w
forward size z wide high proper =
    let area = positive_product size.width size.height wide high in
    let all = positive_product (size.width * size.height) z.d area (omega (arith, proper)) in
    omega (arith, ints, all)

positive_times : (a b : ℤ) → pos 0 <ℤ a → pos 0 <ℤ b → pos 0 <ℤ (a *ℤ b)
positive_times a b h k =
    let p = le_times (pos 1) a b (omega (arith, ints, k)) (omega (arith, ints, h)) in
    let turned = mul_comm (pos 1) b in
    let one = times_one b in
    omega (arith, ints, p, k, turned, one)

-- A piece that is nearer than all of an object, and no nearer than a triangle is where a ray meets that: the triangle
-- hides the object.
backed_hides : (sight : Sight) (near : ℤ) (top share q : ℕ) (points : List Clip) (t : Piece) (p : Point) (ray : Clip) (f : Face)
    → sight.near ≡ near → sight.top ≡ top → IsPiece t → pos 0 <ℤ ray.w → IsBelow (whole_number (pos q)) (depth_at t p) → IsNearest top near share q points
    → Backs sight t p ray f → IsHiddenBy near share points ray f
backed_hides sight near top share q points t p ray f nears tops piece front below nearest backs = record {
  meets = backs.meets;
  uncut = subst (λ n. IsUncut n f ray) nears backs.uncut;
  nearer = λ k d lt.
      nearer_than_point q top (2 ^ 24 + share) (2 ^ 24) (denominator t) (numerator t p) (ray.w *ℤ size_of f) near (weight_of f ray) (get_or points k d).w
      (omega arith) piece.positive_area (positive_times ray.w (size_of f) front backs.meets.proper) whole above no_farther (nearest k d lt);
}
  where
    whole : pos 0 ≤ℤ weight_of f ray
    whole = let a = backs.meets.a in let b = backs.meets.b in let c = backs.meets.c in omega (arith, ints, a, b, c)

    above : (pos q *ℤ denominator t) <ℤ numerator t p
    above = subst (λ n. (pos q *ℤ denominator t) <ℤ n) (times_one (numerator t p)) below

    no_farther : (numerator t p *ℤ (ray.w *ℤ size_of f)) ≤ℤ ((denominator t *ℤ pos top) *ℤ (near *ℤ weight_of f ray))
    no_farther =
        subst (λ n. (numerator t p *ℤ (ray.w *ℤ size_of f)) ≤ℤ ((denominator t *ℤ pos top) *ℤ (n *ℤ weight_of f ray))) nears
        (subst (λ (n : ℕ). (numerator t p *ℤ (ray.w *ℤ size_of f)) ≤ℤ ((denominator t *ℤ pos n) *ℤ (sight.near *ℤ weight_of f ray))) tops backs.no_farther)

-- an object with a shape that isn't visible whatever the tiles hold
pub object_hidden : (s : Setup) (v : View) (tiles : List TileOf) (reach : ℕ) (meshes : List Drawn) (points : List Clip) (shape : Shape) (code : ℕ)
    → (shape ≡ AlwaysVisible → ⊥) → MayStandFor s v points shape → Hides (screen_size s) tiles shape code → IsView s v → IsFrame s v reach meshes tiles
    → code ≡ OCCLUDED → IsHiddenInPicture v reach (IsDrawn meshes) points
object_hidden s v tiles reach meshes points AlwaysVisible code shown stands hides view frame occluded px py across down weights projects z within = absurd (shown refl)
object_hidden s v tiles reach meshes points AlwaysOutside code shown stands hides view frame occluded px py across down weights projects z within =
    absurd (stands px py (record { weights = weights; across = across; down = down; projects = projects }))
object_hidden s v tiles reach meshes points (Pieces ps hull) code shown stands hides view frame occluded px py across down weights projects z within = absurd stands
object_hidden s v tiles reach meshes points (Flat r q) code shown stands hides view frame occluded px py across down weights projects z within =
    let x : px < s.width = omega (arith, across, view.within_width) in
    let y : py < s.height = omega (arith, down, view.within_height) in
    let sound = frame.sound px py x y in
    let has = stands.0 px py (record { weights = weights; across = across; down = down; projects = projects }) in
    let (t, member, covering, below) = hides frame.lists px py sound occluded x y has in
    let (m, among, inside) = frame.within (tile_of_pixel (screen_size s) px py) t member in
    let same = frame.same m among in
    let (f, drawn, backs) = inside px py (subst (λ n. px < n) (sym same.width) across) (subst (λ n. py < n) (sym same.height) down) covering z (wider reach m.view.reach px py z same.reach within) in
    let rays : ray_through (screen_of m.view) z ≡ ray_through (screen_of v) z = ap₂ (λ width height. ray_through (dimensions width height) z) same.width same.height in (
      f,
      (m, among, drawn),
      backed_hides (sight_of m.setup m.view) (distance_of v.near_distance) (top_of (grade_of s)) v.share q points t (middle px py) (ray_through (screen_of v) z) f
          (ap distance_of same.near) (ap top_of same.grade) (sound.valid t member) (forward (screen_of v) z view.wide view.high within.proper) below stands.1
          (subst (λ ray. Backs (sight_of m.setup m.view) t (middle px py) ray f) rays backs),
    )

-- an object that is called occluded by its shape
pub called_hidden : (s : Setup) (v : View) (tiles : List TileOf) (reach : ℕ) (meshes : List Drawn) (points : List Clip) (shape : Shape) (code : ℕ)
    → MayStandFor s v points shape → code ≡ code_of (verdict_over (screen_size s) tiles shape) → Hides (screen_size s) tiles shape code → IsView s v → IsFrame s v reach meshes tiles
    → code ≡ OCCLUDED → IsHiddenInPicture v reach (IsDrawn meshes) points
called_hidden s v tiles reach meshes points shape code stands number hides view frame occluded =
    let is = occluded_by_code (verdict_over (screen_size s) tiles shape) (sym number ∙ occluded) in
    object_hidden s v tiles reach meshes points shape code (λ e. different (sym is ∙ ap (verdict_over (screen_size s) tiles) e)) stands hides view frame occluded
  where
    different : Occluded ≡ Visible → ⊥
    different e = cc

-- a triangle's shape isn't visible whatever the tiles hold, and hides what it has
abbrev IsHiding : Setup → List TileOf → ℕ → Shape → Type 0
IsHiding s tiles code shape = (shape ≡ AlwaysVisible → ⊥) × Hides (screen_size s) tiles shape code

hiding_each : (s : Setup) (v : View) (tiles : List TileOf) (floats : List ℕ) (triangles : List Triangle) (code : ℕ) (answer : IsMeshAnswerFor s v tiles floats triangles code)
    → code ≡ OCCLUDED → All (IsHiding s tiles code) answer.shapes
hiding_each s v tiles floats triangles code answer occluded k d lt = (
  (λ e. shown k Visible (omega (arith, lt, length-map answer.shapes (verdict_over (screen_size s) tiles))) (get_or-map (verdict_over (screen_size s) tiles) answer.shapes k d Visible lt ∙ ap (verdict_over (screen_size s) tiles) e)),
  answer.hide k d lt,
)
  where
    not_both : Occluded ≡ Visible → ⊥
    not_both e = cc

    shown : All (λ w. w ≡ Visible → ⊥) (map (verdict_over (screen_size s) tiles) answer.shapes)
    shown =
        parts_not_visible (map (verdict_over (screen_size s) tiles) answer.shapes)
        (λ e. not_both (sym (occluded_by_code (all_joined (map (verdict_over (screen_size s) tiles) answer.shapes)) (sym answer.value ∙ occluded)) ∙ e))

-- each triangle of a mesh that is called occluded
pub mesh_hidden : (s : Setup) (v : View) (tiles : List TileOf) (reach : ℕ) (meshes : List Drawn) (floats : List ℕ) (triangles : List Triangle) (code : ℕ)
    → IsMeshAnswerFor s v tiles floats triangles code → IsView s v → IsFrame s v reach meshes tiles → code ≡ OCCLUDED
    → All (λ t. IsHiddenInPicture v reach (IsDrawn meshes) (points_of v floats t)) triangles
mesh_hidden s v tiles reach meshes floats triangles code answer view frame occluded =
    all_parts (λ t shape. MayStandFor s v (points_of v floats t) shape) (IsHiding s tiles code) (λ t. IsHiddenInPicture v reach (IsDrawn meshes) (points_of v floats t)) triangles answer.shapes answer.stand
    (hiding_each s v tiles floats triangles code answer occluded)
    (λ t shape stands p. object_hidden s v tiles reach meshes (points_of v floats t) shape code p.0 stands p.1 view frame occluded)

-- a triangle that hides some points is nearer than each weighted sum of them
pub hides_sums : (near : ℤ) (share : ℕ) (points : List Clip) (size : Dimensions) (z : Place) (f : Face) (weights : List ℕ)
    → IsHiddenBy near share points (ray_through size z) f → pos 0 <ℤ (weighted weights points).w
    → (pos (count_of weights points) *ℤ ((ray_through size z).w *ℤ size_of f)) <ℤ ((weighted weights points).w *ℤ weight_of f (ray_through size z))
hides_sums near share points size z f weights hidden front =
    let ray = ray_through size z in
    let proper = hidden.meets.proper in
    nearer_than_sum (2 ^ 24 + share) (2 ^ 24) (ray.w *ℤ size_of f) (weight_of f ray) weights points (omega arith) (product (8 * size.width * size.height * z.d) (size_of f) proper) hidden.nearer front
  where
    product : (n : ℕ) (b : ℤ) → pos 0 <ℤ b → pos 0 ≤ℤ (pos n *ℤ b)
    product n b h = let p = times_le (pos n) (pos 0) b (omega (arith, ints)) (omega (arith, ints, h)) in let none : pos n *ℤ pos 0 ≡ pos 0 = omega (arith, ints) in omega (arith, ints, p, none)

-- tiles that are each after a list
pub frame_of_lists : (s : Setup) (v : View) (reach : ℕ) (meshes : List Drawn) (lists : ℕ → List Piece) (tiles : List TileOf) → IsAfter (screen_size s) 0 lists tiles → AreAll (screen_size s) tiles
    → ((m : Drawn) → Contains meshes m → IsOfFrame s v reach m) → AreOfMeshes meshes lists → IsFrame s v reach meshes tiles
frame_of_lists s v reach meshes lists tiles was all same within = record {
  same = same;
  lists = lists;
  sound = λ px py x y.
      let tile = (tile_of_pixel-is (screen_size s) px py x y).within in
      after_sound (screen_size s) lists tiles (tile_of_pixel (screen_size s) px py) was (omega (arith, tile, all));
  within = within;
}
