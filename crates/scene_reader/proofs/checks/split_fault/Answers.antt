use Rattle.std.proofs.Common.{sym, ◌∙◌, refl}
use Rattle.std.specs.Prelude.{◌==◌}
use Rattle.std.proofs.lemmas.Bool.{and_left, and_right, ne_eqb, eq-eqb, not_from_true}
use Rattle.scene_reader.specs.declared.error.SceneError.TheVariants.{BadBatch}
use Rattle.scene_reader.proofs.Headers.{fault_none_from}
use Rattle.scene_reader.proofs.checks.split_fault.Goals as goal

pub returns-then-version-ne1 : goal.returns-then-version-ne1
returns-then-version-ne1 c = sym (fault_none_from _ (BadBatch 0) (and_left (c.args.version == 1) _ (ne_eqb c.args.version 1 c.if-version-ne1.true)))

pub returns-then-is_one_batch : goal.returns-then-is_one_batch
returns-then-is_one_batch c = sym (fault_none_from _ (BadBatch 0) (and_right (c.args.version == 1) _ (not_from_true _ (sym c.is_one_batch.ensures ∙ c.if-is_one_batch.true))))

pub returns : goal.returns
returns c = rw (eq-eqb c.args.version 1 c.if-version-ne1.false, sym c.is_one_batch.ensures ∙ c.if-is_one_batch.false) refl
