use Rattle.std.proofs.Common.{◌≡◌, ◌-ℤ◌, ◌*ℤ◌, pos, ◌*◌, arith, FitsSigned, w32, w64, rules}
use Rattle.std.proofs.lemmas.Int.{ints, to_z-of_z}
use Rattle.snap_setup.specs.Snapping.{round_half}
use Rattle.snap_setup.proofs.Reached.{y_is}
use Rattle.snap_setup.proofs.snapping.place_y.Goals as goal

pub returns-clause-value : goal.returns-clause-value
returns-clause-value c =
    let p = c.args.point.now in
    let fy : FitsSigned w64 p.y = search rules in let fw : FitsSigned w64 p.w = search rules in
    let fr : FitsSigned w32 c.place_of_offset.result = search rules in
    let fs : FitsSigned w64 (p.w -ℤ p.y) = omega (arith, ints, c.requires.sight.y_bounded, c.requires.sight.w_most, c.requires.sight.w_least) in
    let v : c.place_of_offset.result ≡ round_half (pos (8 * c.height.result) *ℤ (p.w -ℤ p.y)) p.w = simp to_z-of_z at c.place_of_offset.ensures.value in
    simp to_z-of_z (y_is p c.args.size c.height.result c.place_of_offset.result c.height.ensures.value v)
