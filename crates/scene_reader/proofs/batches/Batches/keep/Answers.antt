use Rattle.std.proofs.Common.{ℕ, ◌+◌, refl, ap}
use Rattle.scene_reader.proofs.BatchTable.{batch_added, batch_refused}
use Rattle.scene_reader.proofs.batches.Batches.keep.Goals as goal

pub returns-in_ok-push-in-Ok : goal.returns-in_ok-push-in-Ok
returns-in_ok-push-in-Ok c =
    let made = c.in-Ok.ensures in
    batch_added c.args.tris c.args.i _ c.args.self.now _ c.in-Ok.batch c.if-is_none.ensures refl c.in_ok-push-in-Ok.ensures.items (ap (λ (n : ℕ). c.args.self.now.counted + n) c.from.ensures) made.value made.within

pub returns-in-Err : goal.returns-in-Err
returns-in-Err c =
    let refused = c.in-Err.ensures in
    batch_refused c.args.tris c.args.i _ c.args.self.now _ c.in-Err.fault c.if-is_none.ensures refl refused.named refused.refused refl c.requires.within
