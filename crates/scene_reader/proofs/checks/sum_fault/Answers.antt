use Rattle.std.proofs.Common.{◌∙◌, arith, map}
use Rattle.std.proofs.lemmas.List.{length-map}
use Rattle.cull_base.specs.declared.scene_types.Batch.{Batch}
use Rattle.cull_base.specs.declared.triangle.Winding.TheVariants.{Both}
use Rattle.scene_reader.specs.Layout.{raw_batch}
use Rattle.scene_reader.specs.Fault.{batch_fault}
use Rattle.scene_reader.proofs.BatchTable.{counted_on, batch_fits, batch_over, counts_short, counts_whole}
use Rattle.scene_reader.proofs.First.{first_step}
use Rattle.scene_reader.proofs.checks.sum_fault.Goals as goal

abbrev no_batch : Batch
no_batch = record { count = 0; winding = Both }

pub loop-i-preserved : goal.loop-i-preserved
loop-i-preserved c =
    let batches = c.args.batches.now in
    let raws = map raw_batch batches in
    let tris = c.args.tris in
    let i = c.loop-i.i in
    let so_far = c.loop-i.invariant in
    let lt = c.loop-i-test.true in
    let clear = batch_fits tris batches i c.loop-i.counted no_batch lt so_far.counted (omega arith) in
    record {
      rest = first_step (batch_fault tris raws) raws i (0, 0) (omega (arith, lt, length-map batches raw_batch)) clear ∙ so_far.rest;
      counted = omega (arith, counted_on tris batches i c.loop-i.counted no_batch lt so_far.counted);
      within = omega arith;
    }

pub returns-then-all-counted : goal.returns-then-all-counted
returns-then-all-counted c =
    let so_far = c.loop-i.invariant in
    batch_over c.args.tris c.args.batches.now c.loop-i.i c.loop-i.counted no_batch c.loop-i-test.true so_far.counted (omega arith) so_far.rest

pub returns-then-counted-all : goal.returns-then-counted-all
returns-then-counted-all c =
    let so_far = c.loop-i.invariant in
    counts_short c.args.tris c.args.batches.now c.loop-i.i c.loop-i.counted (omega arith) so_far.rest so_far.counted (omega arith)

pub returns : goal.returns
returns c =
    let so_far = c.loop-i.invariant in
    counts_whole c.args.tris c.args.batches.now c.loop-i.i c.loop-i.counted (omega arith) so_far.rest so_far.counted (omega arith)
