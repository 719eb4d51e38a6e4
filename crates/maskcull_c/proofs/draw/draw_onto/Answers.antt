use Rattle.std.proofs.Common.{map}
use Rattle.cull_base.specs.Grade.{top_of}
use Rattle.snap_setup.specs.Pieces.{list_of_clips}
use Rattle.maskcull_c.specs.Bands.{first_in}
use Rattle.maskcull_c.specs.Given.{clip_of, tri_of}
use Rattle.maskcull_c.proofs.Merged.{merged_counts}
use Rattle.maskcull_c.proofs.draw.draw_onto.Goals as goal

pub returns-clause-counts : goal.returns-clause-counts
returns-clause-counts c =
    let s = c.args.checked.now in
    merged_counts s.size (first_in s.size c.args.window)
    (list_of_clips (map clip_of c.args.vertices.now) (map tri_of c.args.triangles.now) (top_of s.grade) s.near s.size s.winding)
    c.args.tiles.now c.draw_triangles.new.tiles c.draw_triangles.ensures
