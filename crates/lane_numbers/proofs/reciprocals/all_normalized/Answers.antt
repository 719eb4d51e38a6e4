use Rattle.std.proofs.Common.{◌≡◌, ◌*◌, length, sym, ◌∙◌, rules}
use Rattle.std.proofs.lemmas.Simd.{length-zip2}
use Rattle.lane_numbers.proofs.Turned.{all_fit, product_at}
use Rattle.lane_numbers.proofs.reciprocals.all_normalized.Goals as goal

pub overflow_mul-result : goal.overflow_mul-result
overflow_mul-result c =
    let long : length c.args.numbers ≡ 8 = search rules in
    all_fit c.args.numbers c.args.powers long c.requires.numbers (λ j. search rules) c.requires.powers

pub returns-clause-value : goal.returns-clause-value
returns-clause-value c =
    let long : length c.args.numbers ≡ 8 = search rules in let long_powers : length c.args.powers ≡ 8 = search rules in
    product_at c.args.numbers c.args.powers long long_powers c.requires.powers

pub returns-clause-eight : goal.returns-clause-eight
returns-clause-eight c =
    let long : length c.args.numbers ≡ 8 = search rules in let long_powers : length c.args.powers ≡ 8 = search rules in
    length-zip2 (λ x y. x * y) c.args.numbers c.args.powers (long ∙ sym long_powers) ∙ long
