use Rattle.std.proofs.Common.{ap, ◌∙◌, ◌++◌}
use Rattle.cull_base.specs.Tiles.{FrameListOf}
use Rattle.snap_setup.specs.Occluders.{list_of}
use Rattle.snap_setup.proofs.Takes.{took_each}
use Rattle.snap_setup.proofs.frame.list_in_turn.Goals as goal

pub returns-clause-members : goal.returns-clause-members
returns-clause-members c =
    let o = c.args.occluders.now in
    let f = c.in_ok-list.list in
    ap (λ (x : FrameListOf). x.list.members) (took_each f c.push_whole.new.list c.push_whole.result (list_of o) c.push_whole.ensures)
    ∙ ap (λ (x : FrameListOf). x.list.members ++ list_of o) c.in_ok-list.ensures
