use Rattle.std.proofs.Common.{◌≤◌, ◌<◌, ◌/◌, ◌^◌, w64, arith}
use Rattle.std.proofs.lemmas.Int.{ints, to_z_pos}
use Rattle.pixel_forms.proofs.Widths.{quotient-product}
use Rattle.pixel_forms.proofs.nearness_form.limit_of.Goals as goal

pub returns : goal.returns
returns c =
    let e = c.from.ensures in
    let m = rw e at c.min.ensures in
    let le : c.min.result ≤ c.args.size / c.args.near = omega (arith, m) in
    let small : c.min.result < 2 ^ 63 = omega (arith, m) in
    let k = quotient-product c.args.size c.args.near c.min.result c.requires le in
    let p = to_z_pos w64 c.min.result small in
    rw p (omega (arith, ints, k))
