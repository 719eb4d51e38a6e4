-- Objects that are settled over what tiles hold: whatever the tiles take later, they are occluded in the end.
use Rattle.std.specs.Prelude.{ℕ, ◌≡◌, ◌<◌, Bool, true, false}
use Rattle.cull_base.specs.declared.place.Sub.{Sub}
use Rattle.cull_base.specs.declared.rect.Rect.{Rect}
use Rattle.cull_base.specs.declared.scene_types.Object.{Object}
use Rattle.cull_base.specs.declared.scene_types.Verdict.TheVariants.{Occluded}
use Rattle.cull_base.specs.Screen.{Dimensions, tile_count_of, tile_rect_of}
use Rattle.cull_base.specs.Rectangle.{meets}
use Rattle.cull_base.specs.State.{State}
use Rattle.cull_base.specs.Fold.{after}
use Rattle.cull_base.specs.Shape.{Shape, AlwaysOutside, AlwaysVisible, Flat, Pieces}
use Rattle.cull_base.specs.Tiles.{PieceList, ArePieces, prefixed}
use Rattle.masked_update.specs.TileOf.{TileOf}
use Rattle.masked_update.specs.Views.{state_in}
use Rattle.rect_query.specs.Settled.{is_settled}
use Rattle.scene_reader.specs.Layout.{Parts}
use Rattle.cull_report.specs.Scene.{size_of, frame_list, frame_pieces, object_area, object_shape, object_verdict}

-- a shape with one nearness is settled as its rectangle is; no other shape is
abbrev pub is_settled_shape : Dimensions → (Sub → State) → Shape → Bool
is_settled_shape size state_of AlwaysOutside = false
is_settled_shape size state_of AlwaysVisible = false
is_settled_shape size state_of (Flat rect nearness) = is_settled size state_of rect nearness
is_settled_shape size state_of (Pieces pieces hull) = false

-- an object of a frame is settled over what tiles hold
abbrev pub settled_in : Parts → ℕ → (ℕ → TileOf) → Object → Bool
settled_in s frame tile_of object = is_settled_shape (size_of s) (state_in (size_of s) tile_of) (object_shape s frame object)

-- each tile that a rectangle meets has the states after so many members of its list
abbrev pub ArePrefixed : (ℕ → TileOf) → PieceList → Rect → (ℕ → ℕ) → Type 0
ArePrefixed tile_of list r count = (t : ℕ) → t < tile_count_of list.size → meets r (tile_rect_of list.size t) ≡ true → (tile_of t).subs ≡ prefixed t (count t) list

-- an object that is settled over tiles after any fronts of their lists is occluded in the whole frame
abbrev pub SettlesObject : Parts → ℕ → (ℕ → TileOf) → Object → Bool → Type 0
SettlesObject s frame tile_of object settled =
    (count : ℕ → ℕ) → ArePieces (frame_pieces s frame) → ArePrefixed tile_of (frame_list s frame) (object_area s frame object) count → settled ≡ true
    → object_verdict s frame (λ u. after u (frame_pieces s frame)) object ≡ Occluded
