use Rattle.std.proofs.Common.{◌≡◌, ◌-◌, max, arith}
use lib.Count.{count_leading_zeros}
use Rattle.std.proofs.lemmas.Nat.{leading_le}
use Rattle.pixel_forms.proofs.Widths.{width}
use Rattle.pixel_forms.proofs.nearness_form.power_of.Goals as goal

pub returns-clause-enough : goal.returns-clause-enough
returns-clause-enough c =
    let e : c.max.result ≡ max (128 - count_leading_zeros 128 c.args.greatest) 38 = omega (arith, c.max.ensures, leading_le 128 c.args.greatest) in
    width 128 38 c.args.greatest c.max.result c.ranges.greatest.fits e
