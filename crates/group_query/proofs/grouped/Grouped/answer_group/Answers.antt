use Rattle.std.proofs.Common.{◌≡◌, ◌+◌, ◌-◌, ◌<◌, length, arith, refl, ◌∙◌}
use Rattle.cull_base.specs.declared.scene_types.Object.TheVariants.{Mesh}
use Rattle.masked_update.specs.Views.{state_in}
use Rattle.cull_report.specs.Scene.{size_of, verdict_in, verdicts_in}
use Rattle.group_query.proofs.Answered.{answered_as, answered_more, has_next, has_none}
use Rattle.group_query.proofs.HiddenHulls.{kept_next, kept_none}
use Rattle.group_query.proofs.grouped.Grouped.answer_group.Goals as goal

pub loop-member-init : goal.loop-member-init
loop-member-init g c =
    let a = c.args.self.now.asked.now in let states = state_in (size_of a.scene.now) (g.V.TileView.tile_of a.view.now) in
    record {
      ordered = omega arith;
      verdicts = has_none (verdicts_in a.scene.now a.frame (g.V.TileView.tile_of a.view.now)) c.args.verdicts.now.items c.args.group.first;
      room = refl;
      kept = kept_none a.scene.now a.frame states c.args.group c.size-size.result c.nothing_kept-kept.result c.size-size.ensures c.nothing_kept-kept.ensures.hull c.nothing_kept-kept.ensures.shown;
    }

pub kept_with-kept-requires : goal.kept_with-kept-requires
kept_with-kept-requires g c = omega (arith, c.loop-member.invariant.kept.few, c.loop-member-test.true, c.requires.within, c.requires.group, c.object_count-objects.ensures)

pub loop-member-preserved : goal.loop-member-preserved
loop-member-preserved g c =
    let a = c.args.self.now.asked.now in let s = a.scene.now in let tile_of = g.V.TileView.tile_of a.view.now in
    let group = c.args.group in let member = c.loop-member.member in let i = c.loop-member.invariant in
    let verdict = c.verdict_alone-verdict.result in let is = c.verdict_alone-verdict.ensures (Mesh 0 0) in
    let below : member < group.count = omega (arith, c.loop-member-test.true, c.requires.within) in
    let lt : group.first + member < length s.objects = omega (arith, below, c.requires.group) in
    record {
      ordered = omega (arith, c.loop-member-test.true);
      verdicts = has_next (verdict_in s a.frame tile_of) s.objects c.args.verdicts.now.items c.loop-member.verdicts.items c.push_reserved.new.self.items group.first member (Mesh 0 0) verdict lt i.verdicts is c.push_reserved.ensures.items;
      room = c.push_reserved.ensures.capacity ∙ i.room;
      kept = kept_next s a.frame (state_in (size_of s) tile_of) group member (Mesh 0 0) c.size-size.result c.loop-member.kept c.kept_with-kept.result c.seen_form-form.result verdict c.size-size.ensures
          below c.requires.group i.kept c.seen_form-form.ensures is c.kept_with-kept.ensures.shown c.kept_with-kept.ensures.hull c.kept_with-kept.ensures.few;
    }

pub returns-clause-verdicts : goal.returns-clause-verdicts
returns-clause-verdicts g c =
    let a = c.args.self.now.asked.now in let all = verdicts_in a.scene.now a.frame (g.V.TileView.tile_of a.view.now) in
    let member = c.loop-member.member in let n = c.args.count - member in
    let old = c.args.verdicts.now.items in let more = c.answer_alone.new.verdicts.items in
    let whole : member + n ≡ c.args.count = omega (arith, c.loop-member.invariant.ordered) in
    answered_as all old more c.args.group.first (member + n) c.args.group.first c.args.count refl whole
    (answered_more all old c.loop-member.verdicts.items more c.args.group.first member n c.loop-member.invariant.verdicts.answered c.answer_alone.ensures.verdicts)
