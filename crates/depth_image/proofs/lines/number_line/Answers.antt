use Rattle.std.proofs.Common.{◌≡◌, ℕ, ◌<◌, ◌^◌, ◌++◌, [], ◌∷◌, List, length, length-append, arith, ap, ◌∙◌}
use Rattle.std.specs.Fmt.{decimal}
use Rattle.std.proofs.lemmas.Fmt.{length-decimal-le}
use Rattle.depth_image.specs.Picture.{number_line}
use Rattle.depth_image.proofs.lines.number_line.Goals as goal

pub returns : goal.returns
unfolding number_line
returns c =
    let n = c.args.number in
    let small : n < 10 ^ 5 = omega (arith, c.requires) in
    let fits : n < 2 ^ 64 = omega (arith, c.requires) in
    let digits : c.push_number.new.self ≡ decimal n = c.push_number.ensures.value ∙ ap (λ (t : List ℕ). t ++ decimal c.from.result) c.empty-line.ensures ∙ ap decimal c.from.ensures in
    let is : c.end.new.self ≡ decimal n ++ 10 ∷ [] = c.end.ensures ∙ ap (λ (t : List ℕ). t ++ 10 ∷ []) digits in
    let short = length-decimal-le 5 n (omega arith) small fits in
    record { value = is; short = omega (arith, ap length is, length-append (decimal n) (10 ∷ []), short) }
