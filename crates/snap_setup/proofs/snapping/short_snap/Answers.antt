use Rattle.std.proofs.Common.{◌≤◌, ℕ, FitsSigned, w32, arith, rules, refl}
use Rattle.cull_base.specs.declared.nearness.Grade.{Grade}
use Rattle.cull_base.specs.declared.nearness.TheConstants.{HELD_TOP}
use Rattle.cull_base.specs.Grade.{top_of}
use Rattle.std.proofs.lemmas.Int.{to_z-of_z}
use Rattle.snap_setup.specs.Snapping.{snapped}
use Rattle.snap_setup.proofs.Tops.{top_held}
use Rattle.snap_setup.proofs.snapping.short_snap.Goals as goal

held : (grade : Grade) (q : ℕ) → q ≤ top_of grade → q ≤ HELD_TOP
held grade q h = omega (arith, h, top_held grade)

pub returns : goal.returns
unfolding snapped
returns c =
    let fx : FitsSigned w32 c.in-Some.x = search rules in let fy : FitsSigned w32 c.in-Some-short_y.y = search rules in
    let (ex, bx) = c.in-Some.ensures in let (ey, by) = c.in-Some-short_y.ensures in let (eq, bq) = c.in-Some-short_nearness.ensures in
    simp to_z-of_z (rw (ex, ey, eq) refl, record { x_within = bx; y_within = by; nearness_within = held c.args.grade _ bq })
