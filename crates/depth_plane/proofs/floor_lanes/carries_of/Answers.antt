use Rattle.std.proofs.Common.{◌≡◌, ℕ, ◌+◌, ◌<◌, nat_le, cond, length, map, slice_index_or, List, ap, ◌∙◌, arith}
use Rattle.std.proofs.lemmas.List.{get_or-map}
use Rattle.depth_plane.proofs.floor_lanes.carries_of.Goals as goal

one : (xs ys zs : List ℕ) (size rest j : ℕ) → length xs ≡ 8 → length ys ≡ 8 → j < 8 → ys ≡ map (λ n. n + rest) xs → zs ≡ map (λ n. cond (nat_le size n) 1 0) ys →
    slice_index_or zs j 0 ≡ cond (nat_le size (slice_index_or xs j 0 + rest)) 1 0
one xs ys zs size rest j ex ey lt ys_are zs_are =
    ap (λ (l : List ℕ). slice_index_or l j 0) zs_are
    ∙ get_or-map (λ n. cond (nat_le size n) 1 0) ys j 0 0 (omega (arith, lt, ey))
    ∙ ap (λ n. cond (nat_le size n) 1 0) (ap (λ (l : List ℕ). slice_index_or l j 0) ys_are ∙ get_or-map (λ n. n + rest) xs j 0 0 (omega (arith, lt, ex)))

pub returns-clause-value : goal.returns-clause-value
returns-clause-value c = λ j lt. one c.args.rests c.moved.result c.ones_from.result c.args.size c.args.rest j c.requires.eight c.moved.ensures.eight lt c.moved.ensures.value c.ones_from.ensures.value
