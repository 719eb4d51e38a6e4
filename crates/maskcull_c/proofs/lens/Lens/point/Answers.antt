use Rattle.exact_clip.specs.Lost.{IsInReach}
use Rattle.maskcull_c.proofs.Lenses.{point_held}
use Rattle.maskcull_c.proofs.lens.Lens.point.Goals as goal

pub returns : goal.returns
returns c =
    let lens = c.args.self.now in
    point_held lens c.args.positions.now c.args.k c.vertex.result c.position.result (IsInReach lens.rows.exponent lens.rows.matrix c.position.result) lens.matrix_is c.position.ensures c.vertex.ensures.known.0 c.vertex.ensures.holds
