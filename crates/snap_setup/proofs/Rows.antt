-- Worked values of snapping and of pieces, each by computing.
use Rattle.std.proofs.Common.{◌≡◌, ℕ, ℤ, pos, neg_ℤ, refl, List, [], ◌∷◌, Some, None, map}
use Rattle.cull_base.specs.declared.clip.ClipVertex.{ClipVertex}
use Rattle.cull_base.specs.declared.triangle.Side.{Side}
use Rattle.cull_base.specs.declared.triangle.Side.TheVariants.{Occluder, Object}
use Rattle.cull_base.specs.declared.triangle.Winding.TheVariants.{Both, DropClockwise, DropCounter}
use Rattle.cull_base.specs.declared.rect.Rect.{Rect}
use Rattle.cull_base.specs.declared.scene_types.Tri.{Tri}
use Rattle.cull_base.specs.Screen.{Dimensions}
use Rattle.cull_base.specs.Piece.{Piece}
use Rattle.near_clip.specs.NearPart.{near_part}
use Rattle.snap_setup.specs.declared.snapping.Snapped.{Snapped}
use Rattle.snap_setup.specs.Snapping.{snapped}
use Rattle.snap_setup.specs.Pieces.{pieces_of, kept_of, snapped_part, near_box_of, list_of_clips}

abbrev small : Dimensions
small = record { width = 32; height = 8 }

-- the top of the scenes' grade of nearness
abbrev grade : ℕ
grade = 65535

abbrev at : (x y w : ℤ) → ClipVertex
at x y w = record { x = x; y = y; w = w }

abbrev minus : ℕ → ℤ
minus n = neg_ℤ (pos n)

abbrev rect : (x0 y0 x1 y1 : ℕ) → Rect
rect x0 y0 x1 y1 = record { x0 = pos x0; y0 = pos y0; x1 = pos x1; y1 = pos y1 }

abbrev flat : (ax ay bx by cx cy q : ℕ) → Piece
flat ax ay bx by cx cy q = record { xs = pos ax ∷ pos bx ∷ pos cx ∷ []; ys = pos ay ∷ pos by ∷ pos cy ∷ []; qs = q ∷ q ∷ q ∷ [] }

-- The cut at (16, 0, 12) with scale 6 lies at 256 times 28 over 12, which is 597 and a third; on the near plane nothing is nearer.
cut_snapped : (snapped (record { x = pos 16; y = pos 0; w = pos 12; scale = pos 6 }) grade 2 small Occluder).x ≡ pos 597
unfolding snapped
cut_snapped = refl

cut_near : (snapped (record { x = pos 16; y = pos 0; w = pos 12; scale = pos 6 }) grade 2 small Occluder).q ≡ 65535
unfolding snapped
cut_near = refl

-- a quad over the whole screen at twice the near distance
abbrev quad : List ClipVertex
quad = at (minus 2) (pos 2) (pos 2) ∷ at (pos 2) (pos 2) (pos 2) ∷ at (pos 2) (minus 2) (pos 2) ∷ at (minus 2) (minus 2) (pos 2) ∷ []

abbrev tri : (a b c : ℕ) → Tri
tri a b c = record { 0 = a ∷ b ∷ c ∷ [] }

abbrev quad_pieces : List Piece
quad_pieces = flat 0 0 512 0 512 128 32767 ∷ flat 0 0 512 128 0 128 32767 ∷ []

-- Its triangles run clockwise on the screen: they are kept unless clockwise ones are dropped.
quad_lists : (list_of_clips quad (tri 0 1 2 ∷ tri 0 2 3 ∷ []) grade 1 small Both ≡ quad_pieces)
    × (list_of_clips quad (tri 0 1 2 ∷ tri 0 2 3 ∷ []) grade 1 small DropCounter ≡ quad_pieces)
    × (list_of_clips quad (tri 0 1 2 ∷ tri 0 2 3 ∷ []) grade 1 small DropClockwise ≡ [])
unfolding list_of_clips pieces_of kept_of snapped_part snapped near_part
quad_lists = (refl, refl, refl)

-- The same triangles the other way round are turned, and kept unless counterclockwise ones are dropped.
turned_lists : (list_of_clips quad (tri 0 2 1 ∷ tri 0 3 2 ∷ []) grade 1 small Both ≡ quad_pieces)
    × (list_of_clips quad (tri 0 2 1 ∷ tri 0 3 2 ∷ []) grade 1 small DropClockwise ≡ quad_pieces)
    × (list_of_clips quad (tri 0 2 1 ∷ tri 0 3 2 ∷ []) grade 1 small DropCounter ≡ [])
unfolding list_of_clips pieces_of kept_of snapped_part snapped near_part
turned_lists = (refl, refl, refl)

-- a corner at the guard is drawn, one past it isn't
guard_drawn : pieces_of (at (minus 2) (pos 2) (pos 2)) (at (pos 16384) (pos 2) (pos 2)) (at (minus 2) (minus 16384) (pos 2)) grade 1 small Both Occluder ≡ flat 0 0 2097408 0 0 524352 32767 ∷ []
unfolding pieces_of kept_of snapped_part snapped near_part
guard_drawn = refl

guard_past : pieces_of (at (minus 2) (pos 2) (pos 2)) (at (pos 16385) (pos 2) (pos 2)) (at (minus 2) (minus 16384) (pos 2)) grade 1 small Both Occluder ≡ []
unfolding pieces_of kept_of snapped_part snapped near_part
guard_past = refl

-- A triangle between samples is a piece, and its box has the one pixel.
mesh_small : pieces_of (at (minus 246) (pos 216) (pos 256)) (at (minus 242) (pos 216) (pos 256)) (at (minus 242) (pos 200) (pos 256)) grade 1 small Both Object ≡ flat 10 10 14 10 14 14 256 ∷ []
unfolding pieces_of kept_of snapped_part snapped near_part
mesh_small = refl

mesh_box : near_box_of (at (minus 246) (pos 216) (pos 256)) (at (minus 242) (pos 216) (pos 256)) (at (minus 242) (pos 200) (pos 256)) 1 small ≡ Some (rect 0 0 1 1)
unfolding near_box_of near_part
mesh_box = refl

-- Behind the near plane there is no box.
no_box : near_box_of (at (pos 0) (pos 0) (pos 0)) (at (pos 0) (pos 4) (pos 0)) (at (pos 4) (pos 0) (pos 0)) 2 small ≡ None
unfolding near_box_of near_part
no_box = refl

abbrev snapped_at : (x y : ℤ) → Snapped
snapped_at x y = snapped (record { x = x; y = y; w = pos 512; scale = pos 1 }) grade 1 small Occluder

-- Halves are rounded up: 1/2 to 1, -1/2 to 0, -3/2 to -1.
halves_x : map (λ x. (snapped_at x (pos 0)).x) (minus 511 ∷ minus 513 ∷ minus 515 ∷ []) ≡ pos 1 ∷ pos 0 ∷ minus 1 ∷ []
unfolding snapped
halves_x = refl

halves_y : map (λ y. (snapped_at (pos 0) y).y) (pos 508 ∷ pos 516 ∷ pos 524 ∷ []) ≡ pos 1 ∷ pos 0 ∷ minus 1 ∷ []
unfolding snapped
halves_y = refl

abbrev nearness_at : ℕ → Side → ℕ
nearness_at w side = (snapped (record { x = pos 0; y = pos 0; w = pos w; scale = pos 1 }) grade 1 small side).q

-- An occluder's nearness is rounded down, an object's up.
nearness_occluder : map (λ w. nearness_at w Occluder) (1 ∷ 2 ∷ 3 ∷ 16384 ∷ []) ≡ 65535 ∷ 32767 ∷ 21845 ∷ 3 ∷ []
unfolding snapped
nearness_occluder = refl

nearness_object : map (λ w. nearness_at w Object) (1 ∷ 2 ∷ 3 ∷ 16384 ∷ []) ≡ 65535 ∷ 32768 ∷ 21845 ∷ 4 ∷ []
unfolding snapped
nearness_object = refl

-- A triangle cut by the near plane leaves a quad, and each half of it is a piece: the ends at the plane have the greatest nearness.
cut_halves : pieces_of (at (pos 0) (pos 0) (pos 6)) (at (pos 0) (pos 4) (pos 6)) (at (pos 4) (pos 0) (pos 0)) grade 2 small Both Occluder
    ≡ record { xs = pos 256 ∷ pos 256 ∷ pos 597 ∷ []; ys = pos 64 ∷ pos 21 ∷ pos 21 ∷ []; qs = 21845 ∷ 21845 ∷ 65535 ∷ [] }
    ∷ record { xs = pos 256 ∷ pos 597 ∷ pos 597 ∷ []; ys = pos 64 ∷ pos 21 ∷ pos 64 ∷ []; qs = 21845 ∷ 65535 ∷ 65535 ∷ [] }
    ∷ []
unfolding pieces_of kept_of snapped_part snapped near_part
cut_halves = refl

cut_box : near_box_of (at (pos 0) (pos 0) (pos 6)) (at (pos 0) (pos 4) (pos 6)) (at (pos 4) (pos 0) (pos 0)) 2 small ≡ Some (rect 16 1 38 5)
unfolding near_box_of near_part
cut_box = refl

-- A triangle of area 0 on the screen gives no piece but has a box.
flat_none : pieces_of (at (pos 0) (pos 0) (pos 2)) (at (pos 1) (pos 0) (pos 2)) (at (pos 2) (pos 0) (pos 2)) grade 1 small Both Object ≡ []
unfolding pieces_of kept_of snapped_part snapped near_part
flat_none = refl

flat_box : near_box_of (at (pos 0) (pos 0) (pos 2)) (at (pos 1) (pos 0) (pos 2)) (at (pos 2) (pos 0) (pos 2)) 1 small ≡ Some (rect 16 4 33 5)
unfolding near_box_of near_part
flat_box = refl
