use Rattle.maskcull_c.proofs.Merged.{merged_then}
use Rattle.maskcull_c.proofs.Slices.{slices_drawn, slices_listed}
use Rattle.maskcull_c.proofs.laws.slices_join.Goals as goal

pub returns : goal.returns
returns c = record { listed = slices_listed; merged = merged_then; drawn = slices_drawn }
