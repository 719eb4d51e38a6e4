use Rattle.std.proofs.Common.{◌≡◌, ◌+◌, ◌<◌, length, arith, refl, ◌∙◌}
use Rattle.cull_base.specs.declared.scene_types.Object.TheVariants.{Mesh}
use Rattle.cull_report.specs.Scene.{verdict_in, verdicts_in}
use Rattle.group_query.proofs.Answered.{has_all, has_next, has_none}
use Rattle.group_query.proofs.grouped.Grouped.answer_by_hull.Goals as goal

pub loop-k-init : goal.loop-k-init
loop-k-init g c =
    let a = c.args.self.now.asked.now in
    record { verdicts = has_none (verdicts_in a.scene.now a.frame (g.V.TileView.tile_of a.view.now)) c.args.verdicts.now.items c.args.group.first; room = refl }

pub loop-k-preserved : goal.loop-k-preserved
loop-k-preserved g c =
    let a = c.args.self.now.asked.now in
    let lt : c.args.group.first + c.loop-k.k < length a.scene.now.objects = omega (arith, c.loop-k-test.true, c.requires.within, c.requires.group) in
    record {
      verdicts = has_next (verdict_in a.scene.now a.frame (g.V.TileView.tile_of a.view.now)) a.scene.now.objects c.args.verdicts.now.items c.loop-k.verdicts.items c.push_reserved.new.self.items c.args.group.first c.loop-k.k (Mesh 0 0)
          c.member_verdict-verdict.result lt c.loop-k.invariant.verdicts (c.member_verdict-verdict.ensures (Mesh 0 0)) c.push_reserved.ensures.items;
      room = c.push_reserved.ensures.capacity ∙ c.loop-k.invariant.room;
    }

pub returns-clause-verdicts : goal.returns-clause-verdicts
returns-clause-verdicts g c =
    let a = c.args.self.now.asked.now in
    let whole : c.loop-k.k ≡ c.args.count = omega (arith, c.loop-k-test.false, c.loop-k.auto.k-end) in
    has_all (verdicts_in a.scene.now a.frame (g.V.TileView.tile_of a.view.now)) c.args.verdicts.now.items c.loop-k.verdicts.items c.args.group.first c.loop-k.k c.args.count c.loop-k.invariant.verdicts whole
