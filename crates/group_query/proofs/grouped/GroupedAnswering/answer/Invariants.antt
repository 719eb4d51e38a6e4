use Rattle.std.proofs.Common.{◌≡◌, ◌-◌, ◌<◌, ◌≤◌, length, get_or, vec_capacity}
use Rattle.masked_update.specs.Views.{state_in}
use Rattle.cull_report.specs.Scene.{size_of, verdicts_in}
use Rattle.group_query.specs.declared.grouping.Group.{Group}
use Rattle.group_query.proofs.Answered.{HasAnswered}
use Rattle.group_query.proofs.Totals.{CountsTo}
use Rattle.group_query.proofs.grouped.GroupedAnswering.answer.Given as goal

abbrev pub invariant-loop-number : goal.invariant-loop-number
invariant-loop-number g l = record {
  verdicts : HasAnswered (verdicts_in l.self.asked.now.scene.now l.self.asked.now.frame (g.V.TileView.tile_of l.self.asked.now.view.now)) l.fn.verdicts.items l.first (l.place - l.first) l.verdicts.items;
  room : vec_capacity l.verdicts ≡ vec_capacity l.fn.verdicts;
  places : 64 ≤ length l.forms;
  behind : l.first ≤ l.place;
  before : l.place ≤ l.end;
  next : (d : Group) → l.number < length l.self.groups.now → l.place ≤ (get_or l.self.groups.now l.number d).first;
  counted : CountsTo l.self.asked.now.scene.now l.self.asked.now.frame (state_in (size_of l.self.asked.now.scene.now) (g.V.TileView.tile_of l.self.asked.now.view.now)) l.self.groups.now l.from l.number
      (record { hidden = l.hidden; members = l.members });
}
