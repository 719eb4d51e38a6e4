use Rattle.std.proofs.Common.{arith}
use Rattle.cull_base.specs.declared.scene_types.Batch.{Batch}
use Rattle.cull_base.specs.declared.triangle.Winding.TheVariants.{Both}
use Rattle.scene_reader.proofs.BatchTable.{one_not, one_by}
use Rattle.scene_reader.proofs.checks.is_one_batch.Goals as goal

pub returns-then-batches-ne1 : goal.returns-then-batches-ne1
returns-then-batches-ne1 c = one_not c.args.tris c.args.batches.now c.if-batches-ne1.true

pub returns : goal.returns
returns c =
    let none : Batch = record { count = 0; winding = Both } in
    one_by c.args.tris c.args.batches.now none (omega (arith, c.if-batches-ne1.false))
