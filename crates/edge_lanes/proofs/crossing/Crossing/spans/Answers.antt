use Rattle.std.proofs.Common.{◌≡◌, ◌+◌, ◌*◌, ◌∙◌, ℕ, List, ap, length, rules, slice_index_or}
use Rattle.std.proofs.lemmas.Simd.{get_or-replicate}
use Rattle.edge_lanes.specs.Crossings.{crossed_at}
use Rattle.edge_lanes.proofs.Lesser.{between_lanes, length-selected, limit-le}
use Rattle.edge_lanes.proofs.crossing.Crossing.spans.Goals as goal

pub invariant_of-result : goal.invariant_of-result
invariant_of-result c =
    let e = c.args.self.now in
    let xs = c.columns-crossed.result in let ys = e.limits in let n : length xs ≡ 8 = search rules in
    let m : length ys ≡ 8 = ap length e.are_limits in
    record { eight_firsts = length-selected xs ys xs ys n m n m; eight_ends = length-selected xs ys ys xs n m m n }

pub returns : goal.returns
returns c r x l on =
    let e = c.args.self.now in
    let xs = c.columns-crossed.result in let ys = e.limits in let n : length xs ≡ 8 = search rules in
    let m : length ys ≡ 8 = ap length e.are_limits in
    let at : slice_index_or ys r 0 ≡ e.limit = ap (λ (v : List ℕ). slice_index_or v r 0) e.are_limits ∙ get_or-replicate 8 r e.limit 0 l in
    between_lanes (crossed_at e (8 * c.args.row + r)) xs ys e.limit r x n m l on (limit-le e.limit e.is_limit) (c.columns-crossed.ensures r l) at
