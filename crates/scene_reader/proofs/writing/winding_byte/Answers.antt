use Rattle.std.proofs.Common.{sym, ◌∙◌, ◌<◌, length, arith}
use Rattle.std.proofs.lemmas.Bool.{eqb-true, eqb-false}
use Rattle.cull_base.specs.declared.scene_types.Batch.{Batch}
use Rattle.cull_base.specs.declared.triangle.Winding.TheVariants.{Both}
use Rattle.scene_reader.proofs.BatchTable.{byte_second, byte_empty, byte_first}
use Rattle.scene_reader.proofs.writing.winding_byte.Goals as goal

pub returns-then-version-ne1 : goal.returns-then-version-ne1
returns-then-version-ne1 c = sym (byte_second c.args.version c.args.batches.now c.if-version-ne1.true)

pub returns-then-is_empty : goal.returns-then-is_empty
returns-then-is_empty c = byte_empty c.args.version c.args.batches.now (eqb-true (length c.args.batches.now) 0 (sym c.is_empty.ensures ∙ c.if-is_empty.true))

pub returns : goal.returns
returns c =
    let none : Batch = record { count = 0; winding = Both } in
    let some : 0 < length c.args.batches.now = omega (arith, eqb-false (length c.args.batches.now) 0 (sym c.is_empty.ensures ∙ c.if-is_empty.false)) in
    c.code_of.ensures ∙ byte_first c.args.version c.args.batches.now none c.if-version-ne1.false some
