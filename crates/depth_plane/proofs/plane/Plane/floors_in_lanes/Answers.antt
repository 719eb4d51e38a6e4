use Rattle.std.proofs.Common.{◌≡◌, ℕ, ℤ, pos, negsuc, ◌+ℤ◌, Option, Some, IfSome, slice_index, subst, sym, refl, ap, ◌∙◌, FitsSigned, w64, arith, rules}
use Rattle.std.specs.Int.{int_max}
use Rattle.std.proofs.lemmas.Int.{ints, clamps, to_z-of_z}
use Rattle.cull_base.specs.Depth.{cut_to_range, floor_of}
use Rattle.cull_base.specs.declared.nearness.TheConstants.{HELD_TOP}
use Rattle.cull_base.specs.declared.place.Sub.{Sub}
use Rattle.cull_base.specs.declared.place.Tile.{Tile}
use Rattle.depth_plane.specs.Floors.{number_at}
use Rattle.depth_plane.specs.Plane.{Coefficients, HasLanes, least_in, low_from, sub_in}
use Rattle.depth_plane.specs.declared.floor_lanes.FloorLanes.{FloorLanes}
use Rattle.depth_plane.proofs.Corners.{least_risen}
use Rattle.depth_plane.proofs.plane.Plane.floors_in_lanes.Goals as goal

-- no less than 0 before the cut
from_zero : (top : ℕ) (z : ℤ) → cut_to_range top z ≡ cut_to_range top (int_max (pos 0) z)
from_zero top (pos n) = let is : int_max (pos 0) (pos n) ≡ pos n = omega (arith, ints, clamps) in rw is refl
from_zero top (negsuc n) = omega arith

floor_at : (v : Coefficients) (f : FloorLanes) (tile : Tile) (n : ℤ) (j r : ℕ) → HasLanes v f → n ≡ least_in v (sub_in tile 0) →
    r ≡ cut_to_range HELD_TOP (floor_of (n +ℤ number_at f.right f.below j) (pos f.size)) → r ≡ low_from v 0 (sub_in tile j)
floor_at v f tile n j r h en er =
    let a = h.right in let b = h.below in let s = h.size in
    let risen : n +ℤ number_at f.right f.below j ≡ least_in v (sub_in tile j) = rw (en, a, b) (least_risen v tile j) in
    er ∙ ap (λ m. cut_to_range HELD_TOP (floor_of m (pos f.size))) risen ∙ ap (λ d. cut_to_range HELD_TOP (floor_of (least_in v (sub_in tile j)) d)) s
    ∙ from_zero HELD_TOP (floor_of (least_in v (sub_in tile j)) v.area)

-- the lanes that are there are the plane's
lanes_of : (c v : Coefficients) (o : Option FloorLanes) (f : FloorLanes) → c ≡ v → o ≡ Some f → IfSome o (HasLanes c) → HasLanes v f
lanes_of c v o f e is h = subst (λ (w : Coefficients). HasLanes w f) e (rw is at h)

pub returns : goal.returns
returns c = λ j lt.
    let v = c.args.self.now in
    let fr : FitsSigned w64 c.narrow_least.result = search rules in
    let h = lanes_of _ v c.self.inside.lanes c.in_ok-lanes.lanes.now c.self.view_is (sym c.in_ok-lanes.ensures.value) c.self.invariant.2 in
    floor_at v c.in_ok-lanes.lanes.now c.args.tile c.narrow_least.result j (slice_index c.floors.result j) h
    (subst (λ (u : Sub). c.narrow_least.result ≡ least_in v u) c.subtile.ensures.value c.narrow_least.ensures.value)
    (simp to_z-of_z at (c.floors.ensures j lt))
