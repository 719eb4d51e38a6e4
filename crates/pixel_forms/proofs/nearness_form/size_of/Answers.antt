use Rattle.std.proofs.Common.{◌≤◌, ◌^◌, arith}
use Rattle.pixel_forms.proofs.Widths.{shifted-le}
use Rattle.pixel_forms.proofs.nearness_form.size_of.Goals as goal

pub returns : goal.returns
returns c =
    let le : c.min.result ≤ c.args.power = omega (arith, c.min.ensures) in
    shifted-le c.from.result c.args.steps c.min.result c.args.power (2 ^ 128) c.from.ensures le (omega arith)
