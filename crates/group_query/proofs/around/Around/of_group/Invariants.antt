use Rattle.std.proofs.Common.{ℕ, ◌+◌, ◌<◌, ◌^◌, get_or}
use Rattle.cull_base.specs.declared.scene_types.Object.{Object}
use Rattle.camera_path.specs.Clip.{AreWithin}
use Rattle.group_query.specs.Around.{IsBoxInside}
use Rattle.group_query.proofs.around.Around.of_group.Given as goal

abbrev pub invariant-loop-k : goal.invariant-loop-k
invariant-loop-k l = record {
  low : AreWithin (2 ^ 24) l.around.low;
  high : AreWithin (2 ^ 24) l.around.high;
  boxes : (k : ℕ) (o : Object) → k < l.k → IsBoxInside l.around (get_or l.scene.objects (l.group.first + k) o);
}
