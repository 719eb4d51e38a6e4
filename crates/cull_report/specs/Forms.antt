-- What is asked of the tiles for an object.
use Rattle.std.specs.Prelude.{ℕ, ◌≡◌, ◌+◌, ◌≤◌, List, take, drop}
use Rattle.cull_base.specs.declared.scene_types.Tri.{Tri}
use Rattle.cull_base.specs.Grade.{top_of}
use Rattle.cull_base.specs.Screen.{Dimensions}
use Rattle.cull_base.specs.Shape.{Shape, AlwaysOutside, AlwaysVisible, flat_shape}
use Rattle.scene_reader.specs.Layout.{Parts}
use Rattle.mesh_query.specs.Meshes.{mesh_shape}
use Rattle.cull_report.specs.Scene.{size_of, frame_clips}
use Rattle.cull_report.specs.declared.form.Form.{Form}
use Rattle.cull_report.specs.declared.form.Form.TheVariants.{Outside, Visible, Flat, Mesh}

-- a range of some triangles
abbrev pub range_of : List Tri → ℕ → ℕ → List Tri
range_of tris first count = take count (drop first tris)

-- the shape that a form stands for in a frame
abbrev pub shape_of_form : Parts → ℕ → Form → Shape
shape_of_form s frame Outside = AlwaysOutside
shape_of_form s frame Visible = AlwaysVisible
shape_of_form s frame (Flat rect nearness) = flat_shape (size_of s) rect nearness
shape_of_form s frame (Mesh first count) = mesh_shape (top_of s.grade) s.near (size_of s) (frame_clips s frame) (range_of s.object_tris first count)

-- a form that is no mesh stands for a shape on a screen
abbrev pub IsFlatForm : Dimensions → Form → Shape → Type 0
IsFlatForm size Outside shape = AlwaysOutside ≡ shape
IsFlatForm size Visible shape = AlwaysVisible ≡ shape
IsFlatForm size (Flat rect nearness) shape = flat_shape size rect nearness ≡ shape
IsFlatForm size (Mesh first count) shape = ⊥

-- a mesh has a range of triangles that are there
abbrev pub HasTriangles : ℕ → Form → Type 0
HasTriangles count Outside = Unit {0}
HasTriangles count Visible = Unit {0}
HasTriangles count (Flat rect nearness) = Unit {0}
HasTriangles count (Mesh first n) = first + n ≤ count
