use Rattle.std.proofs.Common.{sym, ◌∙◌, refl}
use Rattle.scene_reader.specs.Fault.{batches_fault}
use Rattle.scene_reader.proofs.BatchTable.{batches_valid}
use Rattle.scene_reader.proofs.First.{same_none}
use Rattle.scene_reader.proofs.checks.batches_fault.Goals as goal

pub returns-clause-value : goal.returns-clause-value
unfolding batches_fault
returns-clause-value c = rw (c.or.ensures, c.split_fault.ensures, c.sum_fault.ensures) refl

pub returns-clause-valid : goal.returns-clause-valid
returns-clause-valid c = λ none. batches_valid c.args.version c.args.tris c.args.batches.now (sym (returns-clause-value c) ∙ same_none _ none)
