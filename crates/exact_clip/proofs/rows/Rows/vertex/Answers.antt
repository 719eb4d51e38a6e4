use Rattle.std.proofs.Common.{◌^◌, refl}
use Rattle.exact_clip.proofs.Sums.{holds}
use Rattle.exact_clip.proofs.rows.Rows.vertex.Goals as goal

pub returns-clause-known : goal.returns-clause-known
returns-clause-known c =
    let known = c.in_ok-parts.ensures.known.0 refl in
    (λ _. (known.0, record { coordinates = known.1; last = c.in_ok-last.ensures.value.reach }), λ _. refl)

pub returns-clause-holds : goal.returns-clause-holds
returns-clause-holds c =
    let r = c.args.self.now in let v = c.in_ok-parts.parts in let cut = c.in_ok-parts.ensures.cut in
    holds (2 ^ r.exponent) r.matrix c.args.position.now v.x v.y v.z c.in_ok-last.last c.sum.result cut.x cut.y cut.z c.in_ok-last.ensures.value.cuts c.sum.ensures
