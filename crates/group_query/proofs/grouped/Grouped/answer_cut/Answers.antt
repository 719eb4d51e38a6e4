use Rattle.std.proofs.Common.{◌-◌, arith, ap}
use Rattle.cull_report.specs.Scene.{verdicts_in}
use Rattle.group_query.specs.declared.grouping.Group.{Group}
use Rattle.group_query.proofs.Answered.{answered_same}
use Rattle.group_query.proofs.grouped.Grouped.answer_cut.Goals as goal

pub returns-then-begun-eq0-clause-next : goal.returns-then-begun-eq0-clause-next
returns-then-begun-eq0-clause-next g c d lt = c.requires.begun.behind c.args.begun d (omega arith) lt

pub returns-then-begun-eq0-clause-verdicts : goal.returns-then-begun-eq0-clause-verdicts
returns-then-begun-eq0-clause-verdicts g c = let a = c.args.self.now.asked.now in answered_same (verdicts_in a.scene.now a.frame (g.V.TileView.tile_of a.view.now)) c.args.verdicts.now.items c.args.place

pub group_at-group-requires : goal.group_at-group-requires
group_at-group-requires g c = omega (arith, c.requires.begun.within, c.if-begun-eq0.false)

pub returns-then-next-place-clause-next : goal.returns-then-next-place-clause-next
returns-then-next-place-clause-next g c d lt = c.requires.begun.behind c.args.begun d (omega arith) lt

pub returns-then-next-place-clause-verdicts : goal.returns-then-next-place-clause-verdicts
returns-then-next-place-clause-verdicts g c = let a = c.args.self.now.asked.now in answered_same (verdicts_in a.scene.now a.frame (g.V.TileView.tile_of a.view.now)) c.args.verdicts.now.items c.args.place

pub answer_alone-requires-clause-within : goal.answer_alone-requires-clause-within
answer_alone-requires-clause-within g c = omega (arith, c.min-next.ensures, c.requires.end, c.if-next-place.false)

pub answer_alone-requires-clause-room : goal.answer_alone-requires-clause-room
answer_alone-requires-clause-room g c = omega (arith, c.min-next.ensures, c.requires.room, c.if-next-place.false)

pub returns-clause-next : goal.returns-clause-next
returns-clause-next g c d lt =
    let last = c.args.begun - 1 in
    let apart = c.args.self.now.apart.apart last c.args.begun d (omega (arith, c.if-begun-eq0.false)) lt in
    let first = ap (λ (x : Group). x.first) (c.group_at-group.ensures.at d) in
    let count = ap (λ (x : Group). x.count) (c.group_at-group.ensures.at d) in
    omega (arith, apart, first, count, c.min-next.ensures)
