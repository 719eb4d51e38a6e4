use Rattle.std.proofs.Common.{◌≡◌, ◌≤◌, length, None}
use Rattle.cull_report.specs.Scene.{size_of}
use Rattle.group_query.specs.Hulls.{AreFormsFrom, hull_from, kept_hull, shapes_from}
use Rattle.group_query.proofs.hulls.hull_keeping.Given as goal

abbrev pub invariant-loop-k : goal.invariant-loop-k
invariant-loop-k l = record {
  hull_is : l.hull ≡ kept_hull (size_of l.scene) (hull_from (size_of l.scene) None (shapes_from l.scene l.frame l.first l.k));
  few : l.hull.members ≤ l.k;
  kept : AreFormsFrom l.scene l.frame l.first l.k l.forms;
  places : length l.forms ≡ length l.fn.forms;
}
