use Rattle.std.proofs.Common.{refl}
use Rattle.scene_reader.proofs.ObjectTable.{object_added}
use Rattle.scene_reader.proofs.objects.Objects.keep.Goals as goal

pub returns-in_ok-push-in-Ok : goal.returns-in_ok-push-in-Ok
returns-in_ok-push-in-Ok c = object_added c.args.object_tris c.args.i _ c.args.self.now _ c.in-Ok.object c.if-is_none.ensures refl c.in_ok-push-in-Ok.ensures.items c.in-Ok.ensures.value c.in-Ok.ensures.valid
