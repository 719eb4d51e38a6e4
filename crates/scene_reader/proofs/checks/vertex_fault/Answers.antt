use Rattle.std.proofs.Common.{◌∙◌, sym, ap}
use Rattle.std.specs.Option.{option_map}
use Rattle.scene_reader.specs.declared.error.SceneError.TheVariants.{BadVertex}
use Rattle.scene_reader.proofs.First.{first_of_rows, rows_within}
use Rattle.scene_reader.proofs.checks.vertex_fault.Goals as goal

pub returns-in_err-i : goal.returns-in_err-i
returns-in_err-i c = record { value = rw c.from_residual.ensures (ap (option_map BadVertex) (sym (c.in_err-i.was) ∙ c.first_bad_row.ensures) ∙ first_of_rows BadVertex 0 c.args.vertices.now); valid = λ _. rows_within 3 c.args.vertices.now c.told-vertices (sym c.first_bad_row.ensures ∙ c.in_err-i.was) }

pub returns-clause-value : goal.returns-clause-value
returns-clause-value c = ap (option_map BadVertex) (sym (c.in_ok-i.was) ∙ c.first_bad_row.ensures) ∙ first_of_rows BadVertex 0 c.args.vertices.now
