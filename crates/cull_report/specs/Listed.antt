-- The pieces of a frame by its occluder triangles.
use Rattle.cull_base.specs.Tiles.{PieceList}
use Rattle.snap_setup.specs.declared.occluders.Occluders.{Occluders}
use Rattle.snap_setup.specs.Occluders.{list_of}

-- the pieces of all of a frame's occluder triangles
abbrev pub listed_by : Occluders → PieceList
listed_by o = record { size = o.size; members = list_of o }
