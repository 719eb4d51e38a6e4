use Rattle.std.proofs.Common.{◌≡◌, rules, to_z, of_z, w32}
use Rattle.std.specs.Int.{int_min, int_max}
use Rattle.binning.proofs.around.least_with.Goals as goal

pub returns : goal.returns
returns c =
    let a = c.args.a.now in let b = c.args.b.now in
    let x0 : to_z w32 (of_z w32 c.lesser.result) ≡ int_min a.x0 b.x0 = search rules in
    let y0 : to_z w32 (of_z w32 c.lesser-2.result) ≡ int_min a.y0 b.y0 = search rules in
    let x1 : to_z w32 (of_z w32 c.greater.result) ≡ int_max a.x1 b.x1 = search rules in
    let y1 : to_z w32 (of_z w32 c.greater-2.result) ≡ int_max a.y1 b.y1 = search rules in
    λ i. record { x0 = x0 i; y0 = y0 i; x1 = x1 i; y1 = y1 i }
