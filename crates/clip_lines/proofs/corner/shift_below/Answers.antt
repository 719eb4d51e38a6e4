use Rattle.std.proofs.Common.{◌≡◌, ◌-◌, max, arith}
use lib.Count.{count_leading_zeros}
use Rattle.std.proofs.lemmas.Nat.{leading_le}
use Rattle.clip_lines.proofs.Widths.{width-enough, width-least}
use Rattle.clip_lines.proofs.corner.shift_below.Goals as goal

pub returns-clause-enough : goal.returns-clause-enough
returns-clause-enough c =
    let e : c.max.result ≡ max (64 - count_leading_zeros 64 c.args.greatest) 32 = omega (arith, c.max.ensures, leading_le 64 c.args.greatest) in
    width-enough c.args.greatest c.max.result c.ranges.greatest.fits e

pub returns-clause-no_more : goal.returns-clause-no_more
returns-clause-no_more c s two less =
    let e : c.max.result ≡ max (64 - count_leading_zeros 64 c.args.greatest) 32 = omega (arith, c.max.ensures, leading_le 64 c.args.greatest) in
    width-least c.args.greatest c.max.result s c.ranges.greatest.fits e two less
