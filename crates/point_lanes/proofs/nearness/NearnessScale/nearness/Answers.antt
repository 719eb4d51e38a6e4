use Rattle.std.proofs.Common.{◌<◌, ◌≤◌, ℕ, ◌/◌, get_or, arith, ap, ◌∙◌}
use Rattle.cull_base.specs.Grade.{top_of}
use Rattle.point_lanes.proofs.Nearing.{are_guesses, guesses_small, lane_is}
use Rattle.point_lanes.proofs.nearness.NearnessScale.nearness.Goals as goal

fits : (f : ℕ) → f ≤ 134217728 → f < 4294967296
fits f l = omega (arith, l)

pub factors_of-factors-requires-clause-right : goal.factors_of-factors-requires-clause-right
factors_of-factors-requires-clause-right c = c.args.self.now.is_scale.right_most

pub factors_of-factors-requires-clause-left : goal.factors_of-factors-requires-clause-left
factors_of-factors-requires-clause-left c = c.args.self.now.is_scale.left_most

pub factors_of-factors-requires-clause-fits : goal.factors_of-factors-requires-clause-fits
factors_of-factors-requires-clause-fits c j lt =
    let s = c.args.self.now in let d = c.args.w.now in
    fits _ (lane_is (top_of s.grade) s.near s.number s.held s.right s.left (get_or d.numbers j 0) (get_or d.powers j 0) (get_or d.reciprocals j 0) s.is_scale (d.are_divisors.each j lt) (c.requires j lt)).factor

pub quotients-requires-clause-divisors : goal.quotients-requires-clause-divisors
quotients-requires-clause-divisors c j lt = (c.args.w.now.are_divisors.each j lt).most

pub quotients-requires-clause-low : goal.quotients-requires-clause-low
quotients-requires-clause-low c =
    let s = c.args.self.now in let d = c.args.w.now in
    (are_guesses (top_of s.grade) s.near s.number s.held s.right s.left d.numbers d.powers d.reciprocals c.factors_of-factors.result c.guesses_of-guesses.result s.is_scale d.are_divisors c.requires c.factors_of-factors.ensures.value c.guesses_of-guesses.ensures.value).low

pub quotients-requires-clause-high : goal.quotients-requires-clause-high
quotients-requires-clause-high c =
    let s = c.args.self.now in let d = c.args.w.now in
    (are_guesses (top_of s.grade) s.near s.number s.held s.right s.left d.numbers d.powers d.reciprocals c.factors_of-factors.result c.guesses_of-guesses.result s.is_scale d.are_divisors c.requires c.factors_of-factors.ensures.value c.guesses_of-guesses.ensures.value).high

pub quotients-requires-clause-small : goal.quotients-requires-clause-small
quotients-requires-clause-small c =
    let s = c.args.self.now in let d = c.args.w.now in
    guesses_small s.number d.numbers c.guesses_of-guesses.result
    (are_guesses (top_of s.grade) s.near s.number s.held s.right s.left d.numbers d.powers d.reciprocals c.factors_of-factors.result c.guesses_of-guesses.result s.is_scale d.are_divisors c.requires c.factors_of-factors.ensures.value c.guesses_of-guesses.ensures.value)
    (λ j lt. (d.are_divisors.each j lt).least)
    (λ j lt. (lane_is (top_of s.grade) s.near s.number s.held s.right s.left (get_or d.numbers j 0) (get_or d.powers j 0) (get_or d.reciprocals j 0) s.is_scale (d.are_divisors.each j lt) (c.requires j lt)).few)

pub returns : goal.returns
returns c j lt = c.quotients.ensures j lt ∙ ap (λ (n : ℕ). n / get_or c.args.w.now.numbers j 0) c.args.self.now.is_scale.number_is
