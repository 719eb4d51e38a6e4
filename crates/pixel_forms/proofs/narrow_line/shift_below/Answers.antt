use Rattle.std.proofs.Common.{◌≡◌, ◌-◌, max, arith}
use lib.Count.{count_leading_zeros}
use Rattle.std.proofs.lemmas.Nat.{leading_le}
use Rattle.pixel_forms.proofs.Widths.{width}
use Rattle.pixel_forms.proofs.narrow_line.shift_below.Goals as goal

pub returns-clause-enough : goal.returns-clause-enough
returns-clause-enough c =
    let e : c.max.result ≡ max (64 - count_leading_zeros 64 c.args.greatest) 34 = omega (arith, c.max.ensures, leading_le 64 c.args.greatest) in
    width 64 34 c.args.greatest c.max.result c.ranges.greatest.fits e
