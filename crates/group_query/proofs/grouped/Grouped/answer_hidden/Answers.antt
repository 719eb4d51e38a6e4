use Rattle.std.proofs.Common.{◌+◌, ◌<◌, length, arith, refl, sym, ◌∙◌}
use Rattle.cull_base.specs.declared.scene_types.Object.TheVariants.{Mesh}
use Rattle.cull_base.specs.declared.scene_types.Verdict.TheVariants.{Occluded}
use Rattle.cull_report.specs.Scene.{verdict_in, verdicts_in}
use Rattle.group_query.proofs.Answered.{has_all, has_next, has_none}
use Rattle.group_query.proofs.grouped.Grouped.answer_hidden.Goals as goal

pub loop-k-init : goal.loop-k-init
loop-k-init g c =
    let a = c.args.self.now.asked.now in
    record { verdicts = has_none (verdicts_in a.scene.now a.frame (g.V.TileView.tile_of a.view.now)) c.args.verdicts.now.items c.args._group.first; room = refl }

pub loop-k-preserved : goal.loop-k-preserved
loop-k-preserved g c =
    let a = c.args.self.now.asked.now in
    let below : c.loop-k._k < c.args._group.count = omega (arith, c.loop-k-test.true, c.requires.within) in
    let lt : c.args._group.first + c.loop-k._k < length a.scene.now.objects = omega (arith, below, c.requires.group) in
    record {
      verdicts = has_next (verdict_in a.scene.now a.frame (g.V.TileView.tile_of a.view.now)) a.scene.now.objects c.args.verdicts.now.items c.loop-k.verdicts.items c.push_reserved.new.self.items c.args._group.first c.loop-k._k (Mesh 0 0)
          Occluded lt c.loop-k.invariant.verdicts (sym (c.requires.occluded c.loop-k._k (Mesh 0 0) below)) c.push_reserved.ensures.items;
      room = c.push_reserved.ensures.capacity ∙ c.loop-k.invariant.room;
    }

pub returns-clause-verdicts : goal.returns-clause-verdicts
returns-clause-verdicts g c =
    let a = c.args.self.now.asked.now in
    has_all (verdicts_in a.scene.now a.frame (g.V.TileView.tile_of a.view.now)) c.args.verdicts.now.items c.loop-k.verdicts.items c.args._group.first c.loop-k._k c.args.count c.loop-k.invariant.verdicts
    (omega (arith, c.loop-k-test.false, c.loop-k.auto._k-end))
