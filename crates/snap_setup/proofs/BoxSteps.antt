-- The box of a polygon, from how far its points reach.
use Rattle.std.proofs.Common.{◌≡◌, ℕ, ℤ, List, [], ◌∷◌, length, get_or, Some, None, FitsSigned, w32, arith, refl, sym, ◌∙◌}
use Rattle.std.proofs.lemmas.Int.{ints}
use Rattle.std.specs.Int.{int_min, int_max}
use Rattle.cull_base.specs.declared.clip.ClipVertex.{ClipVertex}
use Rattle.cull_base.specs.declared.extent.Extent.{Extent}
use Rattle.cull_base.specs.declared.rect.Rect.{Rect}
use Rattle.cull_base.specs.Screen.{Dimensions}
use Rattle.cull_base.specs.Piece.{IsCoordinate, least_of, greatest_of}
use Rattle.near_clip.specs.declared.hom_point.HomPoint.{HomPoint}
use Rattle.near_clip.specs.NearPart.{near_part}
use Rattle.snap_setup.specs.declared.snapping.Place.{Place}
use Rattle.snap_setup.specs.Snapping.{place_of}
use Rattle.snap_setup.specs.Boxes.{rect_between}
use Rattle.snap_setup.specs.Pieces.{near_box_of}
use Rattle.snap_setup.proofs.KeptPieces.{list_none, list_three, list_four}

-- an extent that reaches from the least to the greatest of some numbers
pub record Reaches (e : Extent) (values : List ℤ) : Type 0 where
  pub least : e.least ≡ least_of values
  pub greatest : e.greatest ≡ greatest_of values

-- and to one more
pub record ReachesTo (e before : Extent) (v : ℤ) : Type 0 where
  pub least : e.least ≡ int_min before.least v
  pub greatest : e.greatest ≡ int_max before.greatest v

pub box_none : (v0 v1 v2 : ClipVertex) (near : ℕ) (size : Dimensions) (ps : List HomPoint) → ps ≡ near_part v0 v1 v2 near → length ps ≡ 0 → None ≡ near_box_of v0 v1 v2 near size
unfolding near_box_of
box_none v0 v1 v2 near size ps e h = let n : near_part v0 v1 v2 near ≡ [] = sym e ∙ list_none ps h in rw n refl

pub box_three : (v0 v1 v2 : ClipVertex) (near : ℕ) (size : Dimensions) (ps : List HomPoint) (p0 p1 p2 : HomPoint) (a0 a1 a2 : Place) (across down : Extent) (r : Rect) →
    ps ≡ near_part v0 v1 v2 near → length ps ≡ 3 → p0 ≡ get_or ps 0 p0 → p1 ≡ get_or ps 1 p1 → p2 ≡ get_or ps 2 p2 →
    a0 ≡ place_of p0 size → a1 ≡ place_of p1 size → a2 ≡ place_of p2 size →
    Reaches across (a0.x ∷ a1.x ∷ a2.x ∷ []) → Reaches down (a0.y ∷ a1.y ∷ a2.y ∷ []) → r ≡ rect_between across down → Some r ≡ near_box_of v0 v1 v2 near size
unfolding near_box_of
box_three v0 v1 v2 near size ps p0 p1 p2 a0 a1 a2 across down r e h g0 g1 g2 f0 f1 f2 ra rd er =
    let n : near_part v0 v1 v2 near ≡ p0 ∷ p1 ∷ p2 ∷ [] = sym e ∙ list_three ps p0 p1 p2 h g0 g1 g2 in
    rw (n, er, ra.least, ra.greatest, rd.least, rd.greatest, f0, f1, f2) refl

pub box_four : (v0 v1 v2 : ClipVertex) (near : ℕ) (size : Dimensions) (ps : List HomPoint) (p0 p1 p2 p3 : HomPoint) (a0 a1 a2 a3 : Place) (across down wider deeper : Extent) (r : Rect) →
    ps ≡ near_part v0 v1 v2 near → length ps ≡ 4 → p0 ≡ get_or ps 0 p0 → p1 ≡ get_or ps 1 p1 → p2 ≡ get_or ps 2 p2 → p3 ≡ get_or ps 3 p3 →
    a0 ≡ place_of p0 size → a1 ≡ place_of p1 size → a2 ≡ place_of p2 size → a3 ≡ place_of p3 size →
    Reaches across (a0.x ∷ a1.x ∷ a2.x ∷ []) → Reaches down (a0.y ∷ a1.y ∷ a2.y ∷ []) → ReachesTo wider across a3.x → ReachesTo deeper down a3.y →
    r ≡ rect_between wider deeper → Some r ≡ near_box_of v0 v1 v2 near size
unfolding near_box_of
box_four v0 v1 v2 near size ps p0 p1 p2 p3 a0 a1 a2 a3 across down wider deeper r e h g0 g1 g2 g3 f0 f1 f2 f3 ra rd wa wd er =
    let n : near_part v0 v1 v2 near ≡ p0 ∷ p1 ∷ p2 ∷ p3 ∷ [] = sym e ∙ list_four ps p0 p1 p2 p3 h g0 g1 g2 g3 in
    rw (n, er, wa.least, wa.greatest, wd.least, wd.greatest, ra.least, ra.greatest, rd.least, rd.greatest, f0, f1, f2, f3) refl

-- coordinates fit the code's numbers
pub coordinate_fits : (v : ℤ) → IsCoordinate v → FitsSigned w32 v
coordinate_fits v h = omega (arith, ints, h)
