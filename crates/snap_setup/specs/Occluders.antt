-- The pieces of a frame's occluder triangles.
use Rattle.std.specs.Prelude.{ℕ, List}
use Rattle.cull_base.specs.declared.scene_types.Tri.{Tri}
use Rattle.cull_base.specs.declared.triangle.Winding.{Winding}
use Rattle.cull_base.specs.Grade.{top_of}
use Rattle.cull_base.specs.Piece.{Piece}
use Rattle.snap_setup.specs.declared.occluders.Occluders.{Occluders}
use Rattle.snap_setup.specs.Batches.{list_of_batches, without}
use Rattle.snap_setup.specs.Pieces.{list_of_clips}

-- those of some of its triangles that have one winding
abbrev pub list_of_part : Occluders → Winding → List Tri → List Piece
list_of_part o winding tris = list_of_clips o.clips.now tris (top_of o.grade) o.near.distance o.size winding

-- those of some of its triangles, which so many come before
abbrev pub list_of_some : Occluders → List Tri → ℕ → List Piece
list_of_some o tris skipped =
    list_of_batches o.clips.now tris (top_of o.grade) o.near.distance o.size (without skipped o.batches.now)

-- those of all
abbrev pub list_of : Occluders → List Piece
list_of o = list_of_batches o.clips.now o.tris.now (top_of o.grade) o.near.distance o.size o.batches.now
