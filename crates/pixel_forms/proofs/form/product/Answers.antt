use Rattle.std.proofs.Common.{◌*ℤ◌, ◌^◌, FitsSigned, w32, w64, arith}
use Rattle.std.proofs.lemmas.Int.{ints, to_z-of_z}
use Rattle.cull_base.proofs.Bounds.{bounded-mul}
use Rattle.pixel_forms.proofs.form.product.Goals as goal

pub returns : goal.returns
returns c =
    let fs : FitsSigned w64 c.args.slope = c.ranges.slope in let fp : FitsSigned w32 c.args.place = c.ranges.place in
    let gp : FitsSigned w64 c.args.place = omega (arith, ints, fp) in
    let e = simp to_z-of_z at c.from.ensures in
    let w = bounded-mul (2 ^ 45) (2 ^ 15) c.args.slope c.args.place c.requires.slope c.requires.place in
    let p : FitsSigned w64 (c.args.slope *ℤ c.args.place) = omega (arith, ints, w) in
    rw e (record { value = simp to_z-of_z; bounded = simp to_z-of_z w })
