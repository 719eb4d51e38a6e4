use Rattle.std.proofs.Common.{refl}
use Rattle.demo_scene.proofs.scene.whole_batch.Goals as goal

pub returns : goal.returns
returns c = rw (c.in_ok-push.ensures.items, c.new-batches.ensures.items) refl
