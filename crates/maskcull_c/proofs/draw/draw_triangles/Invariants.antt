use Rattle.std.proofs.Common.{map, take}
use Rattle.cull_base.specs.Grade.{top_of}
use Rattle.snap_setup.specs.Pieces.{list_of_clips}
use Rattle.maskcull_c.specs.Bands.{AreMerged, first_in}
use Rattle.maskcull_c.specs.Given.{clip_of, tri_of}
use Rattle.maskcull_c.proofs.draw.draw_triangles.Given as goal

abbrev pub invariant-loop-triangle : goal.invariant-loop-triangle
invariant-loop-triangle l =
    let s = l.fn.checked in
    AreMerged s.size (first_in s.size l.window) (list_of_clips (map clip_of l.vertices) (take l.triangle-index (map tri_of l.triangles)) (top_of s.grade) s.near s.size s.winding) l.initial.tiles l.tiles
