use Rattle.std.proofs.Common.{◌<◌, ℕ, ◌+◌, ◌*◌, nat_le, cond, get_or, ap, ◌∙◌, arith}
use Rattle.point_lanes.proofs.Placing.{close_at, place_is}
use Rattle.point_lanes.proofs.divisors.Divisors.places.Goals as goal

pub rests_of-rests-requires-clause-numbers : goal.rests_of-rests-requires-clause-numbers
rests_of-rests-requires-clause-numbers c j lt = (c.args.self.now.are_divisors.each j lt).most

pub rests_of-rests-requires-clause-low : goal.rests_of-rests-requires-clause-low
rests_of-rests-requires-clause-low c j lt =
    let d = c.args.self.now in
    (close_at c.args.pixels c.args.offsets d.numbers d.powers d.reciprocals c.ratios_of.result c.guesses_of-guesses.result c.requires.pixels d.are_divisors c.requires.offsets c.ratios_of.ensures.value c.guesses_of-guesses.ensures.value j lt).low

pub rests_of-rests-requires-clause-high : goal.rests_of-rests-requires-clause-high
rests_of-rests-requires-clause-high c j lt =
    let d = c.args.self.now in
    (close_at c.args.pixels c.args.offsets d.numbers d.powers d.reciprocals c.ratios_of.result c.guesses_of-guesses.result c.requires.pixels d.are_divisors c.requires.offsets c.ratios_of.ensures.value c.guesses_of-guesses.ensures.value j lt).high

within : (g : ℕ) → g < 4194304 → g < 2147483648
within g l = omega (arith, l)

pub rounded-requires-clause-guesses : goal.rounded-requires-clause-guesses
rounded-requires-clause-guesses c j lt =
    let d = c.args.self.now in
    within _
    (close_at c.args.pixels c.args.offsets d.numbers d.powers d.reciprocals c.ratios_of.result c.guesses_of-guesses.result c.requires.pixels d.are_divisors c.requires.offsets c.ratios_of.ensures.value c.guesses_of-guesses.ensures.value j lt).small

pub rounded-requires-clause-numbers : goal.rounded-requires-clause-numbers
rounded-requires-clause-numbers c j lt = (c.args.self.now.are_divisors.each j lt).most

pub returns : goal.returns
returns c j lt =
    let d = c.args.self.now in
    let p = c.args.pixels in
    let x = get_or c.args.offsets j 0 in let w = get_or d.numbers j 0 in let g = get_or c.guesses_of-guesses.result j 0 in
    place_is p x w g (get_or c.rounded.result j 0) (get_or c.moved.result j 0) _ c.requires.pixels
    (close_at p c.args.offsets d.numbers d.powers d.reciprocals c.ratios_of.result c.guesses_of-guesses.result c.requires.pixels d.are_divisors c.requires.offsets c.ratios_of.ensures.value c.guesses_of-guesses.ensures.value j lt)
    (c.rounded.ensures.value j lt ∙ ap (λ (r : ℕ). g + cond (nat_le (2 * w) r) 1 0) (c.rests_of-rests.ensures.value j lt))
    (c.moved.ensures j lt)
    (c.signed.ensures j lt)
