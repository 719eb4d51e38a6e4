use Rattle.std.proofs.Common.{arith, sym}
use Rattle.std.proofs.lemmas.List.FromFn.{map-range_with_len_more}
use Rattle.demo_scene.specs.Demo.{camera_of}
use Rattle.demo_scene.proofs.scene.cameras.Goals as goal

pub loop-frame-preserved : goal.loop-frame-preserved
loop-frame-preserved c =
    let more = map-range_with_len_more camera_of 0 c.loop-frame.frame c.loop-frame.frame (omega arith) in
    let was = c.loop-frame.invariant in
    let pushed = c.in_ok-push.ensures.items in
    let camera = c.camera_of.ensures in
    rw (pushed, was, camera) (sym more)
