use Rattle.std.proofs.Common.{sym, subst}
use Rattle.scene_reader.specs.Layout.{IsScene}
use Rattle.demo_scene.proofs.DemoScene.{demo_is_scene}
use Rattle.demo_scene.proofs.scene.demo_scene.Goals as goal

pub unreachable-requires : goal.unreachable-requires
unreachable-requires c =
    let taken = c.in-Err.ensures.given (subst IsScene (sym c.in-Ok.ensures) (demo_is_scene c.args.seed c.args.triangles c.requires)) in
    absurd cc
