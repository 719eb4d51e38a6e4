use Rattle.std.proofs.Common.{◌≡◌, ◌+◌, ◌≤◌, Option}
use Rattle.cull_report.specs.Scene.{size_of}
use Rattle.group_query.specs.Hulls.{hull_from, kept_hull, shapes_from}
use Rattle.group_query.specs.declared.hulls.Hull.{Hull}
use Rattle.group_query.proofs.hulls.grown_by.Given as goal

abbrev pub invariant-loop-k : goal.invariant-loop-k
invariant-loop-k l = record {
  hull_is : (h : Option Hull) → l.fn.front ≡ kept_hull (size_of l.scene) h → l.hull ≡ kept_hull (size_of l.scene) (hull_from (size_of l.scene) h (shapes_from l.scene l.frame l.first l.k));
  few : l.hull.members ≤ l.fn.front.members + l.k;
}
