use Rattle.std.proofs.Common.{length, arith}
use Rattle.maskcull_c.proofs.Lenses.{position_within}
use Rattle.maskcull_c.proofs.lens.Lens.first_float.Goals as goal

pub overflow_mul-result : goal.overflow_mul-result
overflow_mul-result c =
    let allowed = c.args.self.now.allowed in
    let within = position_within c.args.self.now.view.stride (length c.args.positions.now) c.args.k allowed.stride c.requires in
    omega (arith, within)

pub returns-clause-within : goal.returns-clause-within
returns-clause-within c =
    let allowed = c.args.self.now.allowed in
    let within = position_within c.args.self.now.view.stride (length c.args.positions.now) c.args.k allowed.stride c.requires in
    omega (arith, within)
