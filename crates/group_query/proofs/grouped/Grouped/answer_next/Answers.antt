use Rattle.std.proofs.Common.{◌≡◌, ◌+◌, ◌-◌, ◌≤◌, length, arith, refl}
use Rattle.std.proofs.lemmas.List.{length-map}
use Rattle.cull_report.specs.Scene.{verdict_in, verdicts_in}
use Rattle.group_query.proofs.Answered.{answered_as, answered_length, answered_more}
use Rattle.group_query.proofs.grouped.Grouped.answer_next.Goals as goal

pub answer_group-requires-clause-room : goal.answer_group-requires-clause-room
answer_group-requires-clause-room g c =
    let a = c.args.self.now.asked.now in
    let s = a.scene.now in
    let f = verdict_in s a.frame (g.V.TileView.tile_of a.view.now) in
    let all = verdicts_in s a.frame (g.V.TileView.tile_of a.view.now) in
    let n = c.args.group.first - c.args.place in
    let within : c.args.place + n ≤ length all = omega (arith, length-map s.objects f, c.requires.behind, c.requires.group) in
    let so_many = answered_length all c.args.verdicts.now.items c.answer_alone.new.verdicts.items c.args.place n c.answer_alone.ensures.verdicts within in
    omega (arith, so_many, c.answer_alone.ensures.room, c.requires.room, c.requires.behind, c.requires.ordered)

pub returns-clause-verdicts : goal.returns-clause-verdicts
returns-clause-verdicts g c =
    let a = c.args.self.now.asked.now in
    let all = verdicts_in a.scene.now a.frame (g.V.TileView.tile_of a.view.now) in
    let place = c.args.place in let first = c.args.group.first in
    let old = c.args.verdicts.now.items in
    let mid = c.answer_alone.new.verdicts.items in
    let more = c.answer_group.new.verdicts.items in
    let n = first - place in let m = c.args.end - first in
    let from : first ≡ place + n = omega (arith, c.requires.behind) in
    let whole : n + m ≡ c.args.end - place = omega (arith, c.requires.behind, c.requires.ordered) in
    answered_as all old more place (n + m) place (c.args.end - place) refl whole
    (answered_more all old mid more place n m c.answer_alone.ensures.verdicts (answered_as all mid more first m (place + n) m from refl c.answer_group.ensures.verdicts))
