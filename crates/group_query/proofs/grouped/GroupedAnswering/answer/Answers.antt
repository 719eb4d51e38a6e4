use Rattle.std.proofs.Common.{◌≡◌, ℕ, ◌+◌, ◌-◌, ◌<◌, ◌≤◌, length, arith, refl, sym, ap, ◌∙◌, subst}
use Rattle.std.proofs.lemmas.List.{length-map}
use Rattle.masked_update.specs.Views.{state_in}
use Rattle.cull_report.specs.Scene.{size_of, verdict_in, verdicts_in}
use Rattle.group_query.specs.Grouping.{AreApart}
use Rattle.group_query.specs.declared.grouping.Group.{Group}
use Rattle.cull_report.specs.declared.tally.Tally.{Tally}
use Rattle.group_query.proofs.Answered.{answered_as, answered_more, has_answered}
use Rattle.group_query.proofs.BegunGroups.{begun_rises}
use Rattle.group_query.proofs.Totals.{CountsTo, counts_next, counts_told, next_fits}
use Rattle.group_query.proofs.grouped.GroupedAnswering.answer.Goals as goal

some_group : Group
some_group = record { first = 0; count = 0 }

pub begun_before-from-requires : goal.begun_before-from-requires
begun_before-from-requires g c = let grouped = c.args.self.now in subst (λ (m : ℕ). AreApart m grouped.groups.now) (sym c.object_count-objects.ensures) grouped.apart

pub begun_before-to-requires : goal.begun_before-to-requires
begun_before-to-requires g c = let grouped = c.args.self.now in subst (λ (m : ℕ). AreApart m grouped.groups.now) (sym c.object_count-objects.ensures) grouped.apart

pub answer_cut-place-requires-clause-end : goal.answer_cut-place-requires-clause-end
answer_cut-place-requires-clause-end g c =
    let a = c.args.self.now.asked.now in
    let n = length-map a.scene.now.objects (verdict_in a.scene.now a.frame (g.V.TileView.tile_of a.view.now)) in
    omega (arith, n, c.requires.within)

pub loop-number-init : goal.loop-number-init
loop-number-init g c =
    let a = c.args.self.now.asked.now in
    let all = verdicts_in a.scene.now a.frame (g.V.TileView.tile_of a.view.now) in
    let cut = c.answer_cut-place.ensures in
    let first = c.args.first in let place = c.answer_cut-place.result in
    let within : first + (place - first) ≤ length all = omega (arith, cut.behind, cut.before, c.requires.within) in
    record {
      verdicts = has_answered all c.args.verdicts.now.items c.answer_cut-place.new.verdicts.items first (place - first) cut.verdicts within;
      room = cut.room;
      places = omega arith;
      behind = cut.behind;
      before = cut.before;
      next = λ d lt. cut.next d lt;
      counted = record { hidden = omega arith; members = omega arith };
    }

pub group_at-group-requires : goal.group_at-group-requires
group_at-group-requires g c = omega (arith, c.loop-number-test.true, c.begun_before-to.ensures.within)

pub answer_next-tally-requires-clause-behind : goal.answer_next-tally-requires-clause-behind
answer_next-tally-requires-clause-behind g c =
    let group = c.group_at-group.result in
    let lt : c.loop-number.number < length c.args.self.now.groups.now = omega (arith, c.loop-number-test.true, c.begun_before-to.ensures.within) in
    let next = c.loop-number.invariant.next group lt in
    let at = ap (λ (x : Group). x.first) (c.group_at-group.ensures.at group) in
    omega (arith, next, at)

pub answer_next-tally-requires-clause-ordered : goal.answer_next-tally-requires-clause-ordered
answer_next-tally-requires-clause-ordered g c =
    let group = c.group_at-group.result in
    let before = c.begun_before-to.ensures.before c.loop-number.number group c.loop-number-test.true in
    let at = ap (λ (x : Group). x.first) (c.group_at-group.ensures.at group) in
    omega (arith, before, at, c.min-next.ensures)

pub answer_next-tally-requires-clause-room : goal.answer_next-tally-requires-clause-room
answer_next-tally-requires-clause-room g c = let i = c.loop-number.invariant in omega (arith, i.verdicts.so_many, i.room, i.behind, i.before, c.min-next.ensures, c.requires.room)

pub overflow_add-hidden : goal.overflow_add-hidden
overflow_add-hidden g c =
    let a = c.args.self.now.asked.now in
    omega (
      arith,
      c.object_count-objects.ensures,
      (next_fits a.scene.now a.frame (state_in (size_of a.scene.now) (g.V.TileView.tile_of a.view.now)) c.args.self.now.groups.now (length a.scene.now.objects) c.begun_before-from.result c.loop-number.number c.begun_before-to.result
          (record { hidden = c.loop-number.hidden; members = c.loop-number.members }) c.answer_next-tally.result c.group_at-group.result c.args.self.now.apart c.loop-number-test.true c.begun_before-to.ensures.within c.loop-number.invariant.counted c.answer_next-tally.ensures.told c.group_at-group.ensures.at).0,
    )

pub overflow_add-members : goal.overflow_add-members
overflow_add-members g c =
    let a = c.args.self.now.asked.now in
    omega (
      arith,
      c.object_count-objects.ensures,
      (next_fits a.scene.now a.frame (state_in (size_of a.scene.now) (g.V.TileView.tile_of a.view.now)) c.args.self.now.groups.now (length a.scene.now.objects) c.begun_before-from.result c.loop-number.number c.begun_before-to.result
          (record { hidden = c.loop-number.hidden; members = c.loop-number.members }) c.answer_next-tally.result c.group_at-group.result c.args.self.now.apart c.loop-number-test.true c.begun_before-to.ensures.within c.loop-number.invariant.counted c.answer_next-tally.ensures.told c.group_at-group.ensures.at).1,
    )

pub loop-number-preserved : goal.loop-number-preserved
loop-number-preserved g c =
    let a = c.args.self.now.asked.now in let s = a.scene.now in
    let tile_of = g.V.TileView.tile_of a.view.now in
    let all = verdicts_in s a.frame tile_of in
    let gs = c.args.self.now.groups.now in let n = c.loop-number.number in
    let i = c.loop-number.invariant in
    let first = c.args.first in let place = c.loop-number.place in let next = c.min-next.result in
    let old = c.args.verdicts.now.items in let new = c.answer_next-tally.new.verdicts.items in
    let group = c.group_at-group.result in
    let lt : n < length gs = omega (arith, c.loop-number-test.true, c.begun_before-to.ensures.within) in
    let at_first = ap (λ (x : Group). x.first) (c.group_at-group.ensures.at group) in
    let began = c.begun_before-to.ensures.before n group c.loop-number-test.true in
    let follows = i.next group lt in
    let le : place ≤ next = omega (arith, began, follows, at_first, i.before, c.min-next.ensures) in
    let from : place ≡ first + (place - first) = omega (arith, i.behind) in
    let whole : (place - first) + (next - place) ≡ next - first = omega (arith, i.behind, le) in
    let within : first + (next - first) ≤ length all = omega (arith, i.behind, le, c.min-next.ensures, c.requires.within) in
    record {
      verdicts = has_answered all old new first (next - first) (answered_as all old new first ((place - first) + (next - place)) first (next - first) refl whole
          (answered_more all old c.loop-number.verdicts.items new first (place - first) (next - place) i.verdicts.answered
          (answered_as all c.loop-number.verdicts.items new place (next - place) (first + (place - first)) (next - place) from refl c.answer_next-tally.ensures.verdicts))) within;
      room = c.answer_next-tally.ensures.room ∙ i.room;
      places = omega (arith, i.places, c.answer_next-tally.ensures.places);
      behind = omega (arith, i.behind, le);
      before = omega (arith, c.min-next.ensures);
      next = λ d below.
          let apart = c.args.self.now.apart.apart n (n + 1) d (omega arith) below in
          let at_d = c.group_at-group.ensures.at d in
          omega (arith, apart, ap (λ (x : Group). x.first) at_d, ap (λ (x : Group). x.count) at_d, c.min-next.ensures);
      counted = counts_next s a.frame (state_in (size_of s) tile_of) gs c.begun_before-from.result n (record { hidden = c.loop-number.hidden; members = c.loop-number.members }) c.answer_next-tally.result group lt i.counted
          c.answer_next-tally.ensures.told c.group_at-group.ensures.at;
    }

pub answer_alone-requires-clause-within : goal.answer_alone-requires-clause-within
answer_alone-requires-clause-within g c =
    let a = c.args.self.now.asked.now in
    let n = length-map a.scene.now.objects (verdict_in a.scene.now a.frame (g.V.TileView.tile_of a.view.now)) in
    omega (arith, n, c.loop-number.invariant.before, c.requires.within)

pub answer_alone-requires-clause-room : goal.answer_alone-requires-clause-room
answer_alone-requires-clause-room g c = let i = c.loop-number.invariant in omega (arith, i.verdicts.so_many, i.room, i.behind, i.before, c.requires.room)

pub returns-clause-verdicts : goal.returns-clause-verdicts
returns-clause-verdicts g c =
    let a = c.args.self.now.asked.now in
    let all = verdicts_in a.scene.now a.frame (g.V.TileView.tile_of a.view.now) in
    let i = c.loop-number.invariant in
    let first = c.args.first in let place = c.loop-number.place in let end = first + c.args.count in
    let old = c.args.verdicts.now.items in let so_far = c.loop-number.verdicts.items in let new = c.answer_alone.new.verdicts.items in
    let from : place ≡ first + (place - first) = omega (arith, i.behind) in
    let whole : (place - first) + (end - place) ≡ c.args.count = omega (arith, i.behind, i.before) in
    answered_as all old new first ((place - first) + (end - place)) first c.args.count refl whole
    (answered_more all old so_far new first (place - first) (end - place) i.verdicts.answered (answered_as all so_far new place (end - place) (first + (place - first)) (end - place) from refl c.answer_alone.ensures.verdicts))

pub returns-clause-told : goal.returns-clause-told
returns-clause-told g c =
    let a = c.args.self.now.asked.now in let s = a.scene.now in
    let states = state_in (size_of s) (g.V.TileView.tile_of a.view.now) in
    let gs = c.args.self.now.groups.now in
    let first = c.args.first in let end = first + c.args.count in
    let from = c.begun_before-from.result in let to = c.begun_before-to.result in
    let t : Tally = record { hidden = c.loop-number.hidden; members = c.loop-number.members } in
    let rises = begun_rises first end gs from to some_group c.begun_before-from.ensures c.begun_before-to.ensures (omega arith) in
    let whole : c.loop-number.number ≡ to = omega (arith, rises, c.loop-number-test.false, c.loop-number.auto.number-end) in
    counts_told s a.frame states gs first end from to t c.begun_before-from.ensures c.begun_before-to.ensures (subst (λ (k : ℕ). CountsTo s a.frame states gs from k t) whole c.loop-number.invariant.counted)
