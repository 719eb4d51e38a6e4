use Rattle.std.proofs.Common.{List, ap}
use Rattle.cull_base.specs.declared.scene_types.Batch.{Batch}
use Rattle.cull_base.specs.Grade.{top_of}
use Rattle.snap_setup.specs.Batches.{list_of_batches}
use Rattle.snap_setup.specs.Occluders.{list_of, list_of_some}
use Rattle.snap_setup.proofs.Batches.{without_none}
use Rattle.snap_setup.proofs.Takes.{took_as}
use Rattle.snap_setup.proofs.frame.push_whole.Goals as goal

pub returns : goal.returns
returns c =
    let o = c.args.occluders.now in
    took_as c.args.keeping c.args.list.now c.push_batches.new.list c.push_batches.result (list_of_some o o.tris.now 0) (list_of o) c.push_batches.ensures
    (ap (λ (bs : List Batch). list_of_batches o.clips.now o.tris.now (top_of o.grade) o.near.distance o.size bs) (without_none o.batches.now))
