-- The numbers of verdicts.
use Rattle.std.proofs.Common.{◌≡◌, ◌≤◌, arith, refl}
use Rattle.cull_base.specs.declared.scene_types.Verdict.{Verdict}
use Rattle.cull_base.specs.declared.scene_types.Verdict.TheVariants.{Visible, Occluded, Outside}
use Rattle.maskcull_c.specs.declared.status.TheConstants.{VISIBLE, OCCLUDED, OUTSIDE}
use Rattle.maskcull_c.specs.Tiles.{code_of}

-- one verdict alone has the number of occluded
pub occluded_by_code : (v : Verdict) → code_of v ≡ OCCLUDED → v ≡ Occluded
occluded_by_code Visible e = absurd (omega (arith, e))
occluded_by_code Occluded e = refl
occluded_by_code Outside e = absurd (omega (arith, e))

-- and one that of outside
pub outside_by_code : (v : Verdict) → code_of v ≡ OUTSIDE → v ≡ Outside
outside_by_code Visible e = absurd (omega (arith, e))
outside_by_code Occluded e = absurd (omega (arith, e))
outside_by_code Outside e = refl

-- none is the number of a refusal
pub code_between : (v : Verdict) → (VISIBLE ≤ code_of v) × (code_of v ≤ OUTSIDE)
code_between Visible = (omega arith, omega arith)
code_between Occluded = (omega arith, omega arith)
code_between Outside = (omega arith, omega arith)
