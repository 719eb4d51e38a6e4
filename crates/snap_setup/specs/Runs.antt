-- The triangles of a frame in runs, whose pieces are made side by side.
use Rattle.std.specs.Prelude.{ℕ, ◌≡◌, ◌*◌, ◌<◌, ◌≤◌, List, [], length, take, drop, slice_index_or}
use Rattle.cull_base.specs.declared.scene_types.Tri.{Tri}
use Rattle.std.specs.List.{flat_map}
use Rattle.cull_base.specs.Piece.{Piece}
use Rattle.cull_base.specs.Screen.{Dimensions}
use Rattle.cull_base.specs.Tiles.{FrameListOf, with_members}
use Rattle.snap_setup.specs.declared.occluders.Occluders.{Occluders}
use Rattle.snap_setup.specs.Occluders.{list_of_some}

-- run k of runs of so many triangles each, but for the last
abbrev pub run_of : List Tri → ℕ → ℕ → List Tri
run_of tris share k = take share (drop (k * share) tris)

-- an empty list for a screen, with room for so many pieces at least
pub record IsRoom (size : Dimensions) (need : ℕ) (f : FrameListOf) : Type 0 where
  pub sized : f.list.size ≡ size
  pub empty : f.list.members ≡ []
  pub enough : need ≤ f.room

-- the members of some lists, one list after another
abbrev pub members_of : List FrameListOf → List Piece
members_of rooms = flat_map (λ (f : FrameListOf). f.list.members) rooms

-- the pieces of run k of a frame's triangles
abbrev pub run_pieces : Occluders → ℕ → ℕ → List Piece
run_pieces o share k = list_of_some o (run_of o.tris.now share k) (k * share)

-- each room got the pieces of its run
abbrev pub AreFilled : Occluders → ℕ → List FrameListOf → List FrameListOf → Type 0
AreFilled o share old new =
    (k : ℕ) (d : FrameListOf) → k < length old → slice_index_or new k d ≡ with_members (slice_index_or old k d) (run_pieces o share k)

-- each room holds the pieces of its run, and nothing else
abbrev pub AreMade : Occluders → ℕ → List FrameListOf → Type 0
AreMade o share rooms = (k : ℕ) (d : FrameListOf) → k < length rooms → (slice_index_or rooms k d).list.members ≡ run_pieces o share k

-- the first of some rooms is for a screen, and has room for so many pieces
abbrev pub IsFirstFor : Dimensions → ℕ → List FrameListOf → Type 0
IsFirstFor size most rooms =
    (d : FrameListOf) → ((slice_index_or rooms 0 d).list.size ≡ size) × (most ≤ (slice_index_or rooms 0 d).room)
