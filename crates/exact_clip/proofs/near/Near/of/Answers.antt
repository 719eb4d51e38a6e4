use Rattle.std.proofs.Common.{pos, ◌<ℤ◌, refl, arith}
use Rattle.std.proofs.lemmas.Int.{ints}
use Rattle.exact_clip.proofs.Nears.{near_is, above}
use Rattle.exact_clip.proofs.near.Near.of.Goals as goal

pub returns-then-number-gt0-clause-known : goal.returns-then-number-gt0-clause-known
returns-then-number-gt0-clause-known c =
    let n = c.in_ok-number.number in
    let positive : pos 0 <ℤ n.mantissa = omega (arith, ints, c.if-number-gt0.true) in
    (λ _. (c.in_ok-number.ensures.known.0 refl, above _ n.mantissa n.power c.in_ok-number.ensures.value.value positive), λ _. refl)

pub returns-then-number-gt0-clause-value : goal.returns-then-number-gt0-clause-value
returns-then-number-gt0-clause-value c =
    let n = c.in_ok-number.number in
    let positive : pos 0 <ℤ n.mantissa = omega (arith, ints, c.if-number-gt0.true) in
    near_is _ n.mantissa _ n.power 149 c.near_of.result.distance c.near_of.result.exponent c.in_ok-number.ensures.value.value c.near_of.ensures (omega (arith, ints, positive))
