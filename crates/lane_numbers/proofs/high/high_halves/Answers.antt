use Rattle.std.proofs.Common.{◌≡◌, length, get_or, pos, rules, FitsSigned, w64}
use Rattle.lane_numbers.proofs.Halves.{high_one_by_one}
use Rattle.lane_numbers.proofs.high.high_halves.Goals as goal

pub returns-clause-value : goal.returns-clause-value
returns-clause-value c =
    let zs = c.args.numbers in
    let long : length zs ≡ 8 = search rules in
    let a : FitsSigned w64 (get_or zs 0 (pos 0)) = search rules in let b : FitsSigned w64 (get_or zs 1 (pos 0)) = search rules in
    let d : FitsSigned w64 (get_or zs 2 (pos 0)) = search rules in let e : FitsSigned w64 (get_or zs 3 (pos 0)) = search rules in
    let f : FitsSigned w64 (get_or zs 4 (pos 0)) = search rules in let g : FitsSigned w64 (get_or zs 5 (pos 0)) = search rules in
    let h : FitsSigned w64 (get_or zs 6 (pos 0)) = search rules in let i : FitsSigned w64 (get_or zs 7 (pos 0)) = search rules in
    high_one_by_one zs long (a, (b, (d, (e, (f, (g, (h, (i, tt))))))))
