use Rattle.std.proofs.Common.{sym, arith, ◌≤◌, length}
use Rattle.std.proofs.lemmas.List.{length-take-le}
use Rattle.near_clip.proofs.polygon.Polygon.len.Goals as goal

pub returns-clause-value : goal.returns-clause-value
returns-clause-value c =
    let within : c.self.inside.len ≤ length c.self.inside.points = omega (arith, c.self.invariant) in
    rw (← c.self.view_is) (sym (length-take-le c.self.inside.len c.self.inside.points within))
