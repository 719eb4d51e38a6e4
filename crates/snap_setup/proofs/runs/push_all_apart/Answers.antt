use Rattle.std.proofs.Common.{ap, ◌∙◌}
use Rattle.cull_base.specs.Tiles.{FrameListOf, with_members}
use Rattle.snap_setup.specs.Occluders.{list_of_some}
use Rattle.snap_setup.proofs.Takes.{took_each}
use Rattle.snap_setup.proofs.runs.push_all_apart.Goals as goal

pub returns-in-Ok : goal.returns-in-Ok
returns-in-Ok c =
    let ps = list_of_some c.args.occluders.now c.args.tris.now c.args.skipped in
    took_each c.replace-apart.result c.push_batches.new.list c.push_batches.result ps c.push_batches.ensures ∙ ap (λ (f : FrameListOf). with_members f ps) c.replace-apart.ensures.value

pub returns-in-Err : goal.returns-in-Err
returns-in-Err c =
    took_each c.args.list.now c.push_batches-in-Err.new.list c.push_batches-in-Err.result (list_of_some c.args.occluders.now c.args.tris.now c.args.skipped) c.push_batches-in-Err.ensures
