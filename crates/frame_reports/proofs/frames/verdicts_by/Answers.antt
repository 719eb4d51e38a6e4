use Rattle.frame_reports.proofs.GroupLines.{counted_by, framed_by}
use Rattle.frame_reports.proofs.frames.verdicts_by.Goals as goal

pub returns-in-Workers-clause-verdicts : goal.returns-in-Workers-clause-verdicts
returns-in-Workers-clause-verdicts g c = let a = c.args.grouped.now.asked.now in framed_by a.scene.now a.frame (g.V.TileView.tile_of a.view.now) c.args.grouped.now.groups.now c.group_verdicts_by_workers.result c.requires c.group_verdicts_by_workers.ensures

pub returns-in-Workers-clause-counted : goal.returns-in-Workers-clause-counted
returns-in-Workers-clause-counted g c = let a = c.args.grouped.now.asked.now in counted_by a.scene.now a.frame (g.V.TileView.tile_of a.view.now) c.args.grouped.now.groups.now c.group_verdicts_by_workers.result c.requires c.group_verdicts_by_workers.ensures

pub returns-in-Caller-clause-verdicts : goal.returns-in-Caller-clause-verdicts
returns-in-Caller-clause-verdicts g c = let a = c.args.grouped.now.asked.now in framed_by a.scene.now a.frame (g.V.TileView.tile_of a.view.now) c.args.grouped.now.groups.now c.group_verdicts_with_lines.result c.requires c.group_verdicts_with_lines.ensures

pub returns-in-Caller-clause-counted : goal.returns-in-Caller-clause-counted
returns-in-Caller-clause-counted g c = let a = c.args.grouped.now.asked.now in counted_by a.scene.now a.frame (g.V.TileView.tile_of a.view.now) c.args.grouped.now.groups.now c.group_verdicts_with_lines.result c.requires c.group_verdicts_with_lines.ensures
