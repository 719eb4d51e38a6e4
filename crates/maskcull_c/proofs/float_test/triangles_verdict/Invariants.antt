use Rattle.std.proofs.Common.{take}
use Rattle.maskcull_c.specs.Lenses.{IsMeshVerdict}
use Rattle.maskcull_c.proofs.float_test.triangles_verdict.Given as goal

abbrev pub invariant-loop-triangle : goal.invariant-loop-triangle
invariant-loop-triangle l = IsMeshVerdict l.lens.setup l.lens.view l.tiles l.positions (take l.triangle-index l.triangles) l.verdict
