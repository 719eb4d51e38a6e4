-- The pieces of triangles that come in batches, each with a winding of its own.
use Rattle.std.specs.Prelude.{ℕ, ◌≡◌, ◌≤◌, ◌-◌, List, [], ◌∷◌, ◌++◌, length, take, drop}
use Rattle.std.specs.List.{Contains}
use Rattle.cull_base.specs.declared.clip.ClipVertex.{ClipVertex}
use Rattle.cull_base.specs.declared.scene_types.Batch.{Batch}
use Rattle.cull_base.specs.declared.scene_types.Tri.{Tri}
use Rattle.cull_base.specs.declared.triangle.Winding.{Winding}
use Rattle.cull_base.specs.Depth.{greatest_nearness}
use Rattle.cull_base.specs.Piece.{Piece}
use Rattle.cull_base.specs.Screen.{Dimensions}
use Rattle.snap_setup.specs.Pieces.{list_of_clips}

-- batch by batch, the next so many triangles have the batch's winding
unfoldable pub list_of_batches : List ClipVertex → List Tri → ℕ → ℕ → Dimensions → List Batch → List Piece
list_of_batches clips tris top near size [] = []
list_of_batches clips tris top near size (b ∷ batches) =
    list_of_clips clips (take b.count tris) top near size b.winding
    ++ list_of_batches clips (drop b.count tris) top near size batches

-- the batches of the triangles behind the first so many
abbrev pub without : ℕ → List Batch → List Batch
without n [] = []
without n (b ∷ batches) = record { count = b.count - n; winding = b.winding } ∷ without (n - b.count) batches

-- one batch of all triangles, all with its winding
abbrev pub OneBatch : Type 0
OneBatch = (clips : List ClipVertex) (tris : List Tri) (top near : ℕ) (size : Dimensions) (winding : Winding)
    → list_of_batches clips tris top near size (record { count = length tris; winding = winding } ∷ [])
    ≡ list_of_clips clips tris top near size winding

-- no piece of triangles that come in batches is nearer than the top that their nearness is scaled by
abbrev pub AreWithinTop : Type 0
AreWithinTop = (clips : List ClipVertex) (tris : List Tri) (top near : ℕ) (size : Dimensions) (batches : List Batch) (t : Piece)
    → 1 ≤ near → near ≤ 1024 → Contains (list_of_batches clips tris top near size batches) t → greatest_nearness t ≤ top
