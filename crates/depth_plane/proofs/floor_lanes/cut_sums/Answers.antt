use Rattle.std.proofs.Common.{◌≡◌, ℕ, ◌+◌, ◌-◌, ◌<◌, ◌^◌, min, length, map, slice_index, slice_index_or, List, ap, ◌∙◌, arith}
use Rattle.std.specs.Simd.Lanes.{zip2}
use Rattle.std.proofs.lemmas.List.{get_or-map}
use Rattle.std.proofs.lemmas.Simd.{get_or-zip2}
use Rattle.cull_base.specs.declared.nearness.TheConstants.{HELD_TOP}
use Rattle.depth_plane.proofs.floor_lanes.cut_sums.Goals as goal

one : (ws cs ms ss rs : List ℕ) (whole j : ℕ) → length ws ≡ 8 → length cs ≡ 8 → length ms ≡ 8 → length ss ≡ 8 → j < 8 →
    ms ≡ map (λ n. n + whole) ws → ss ≡ zip2 (λ x y. x + y) ms cs → rs ≡ map (λ n. min (n - (2 ^ 29 + 2 ^ 28)) HELD_TOP) ss →
    slice_index rs j ≡ min ((slice_index_or ws j 0 + whole + slice_index_or cs j 0) - (2 ^ 29 + 2 ^ 28)) HELD_TOP
one ws cs ms ss rs whole j ew ec em es lt ms_are ss_are rs_are =
    ap (λ (l : List ℕ). slice_index l j) rs_are
    ∙ get_or-map (λ n. min (n - (2 ^ 29 + 2 ^ 28)) HELD_TOP) ss j 0 0 (omega (arith, lt, es))
    ∙ ap (λ n. min (n - (2 ^ 29 + 2 ^ 28)) HELD_TOP) (
    ap (λ (l : List ℕ). slice_index_or l j 0) ss_are
    ∙ get_or-zip2 (λ x y. x + y) ms cs j 0 0 0 (omega (arith, lt, em)) (omega (arith, lt, ec))
    ∙ ap (λ n. n + slice_index_or cs j 0) (ap (λ (l : List ℕ). slice_index_or l j 0) ms_are ∙ get_or-map (λ n. n + whole) ws j 0 0 (omega (arith, lt, ew)))
    )

pub returns : goal.returns
returns c = λ j lt. one c.args.wholes c.args.carries c.moved.result c.sums_of.result c.cut_to_lanes.result c.args.whole j c.requires.eight c.requires.eight_carries c.moved.ensures.eight c.sums_of.ensures.eight lt
    c.moved.ensures.value c.sums_of.ensures.value c.cut_to_lanes.ensures
