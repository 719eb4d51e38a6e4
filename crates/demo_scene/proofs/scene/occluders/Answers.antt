use Rattle.std.proofs.Common.{arith, sym}
use Rattle.std.proofs.lemmas.List.FromFn.{map-range_with_len_more}
use Rattle.demo_scene.specs.Demo.{triangle_of}
use Rattle.demo_scene.proofs.scene.occluders.Goals as goal

pub loop-i-preserved : goal.loop-i-preserved
loop-i-preserved c =
    let more = map-range_with_len_more triangle_of 0 c.loop-i.i c.loop-i.i (omega arith) in
    rw (c.in_ok-push.ensures.items, c.loop-i.invariant) (sym more)
