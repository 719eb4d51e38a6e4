use Rattle.std.proofs.Common.{◌≡◌, ℕ, ◌<◌, List, length, get_or, replicate, max, refl, arith, ap, ◌∙◌}
use Rattle.std.specs.Simd.Lanes.{zip2}
use Rattle.std.proofs.lemmas.Simd.{get_or-zip2, length-zip2}
use Rattle.std.proofs.lemmas.List.{get_or-replicate}
use Rattle.masked_update.proofs.coverage.Coverage.raised.Goals as goal

-- one of eight numbers that are no less than one
one : (xs : List ℕ) (least j : ℕ) → length xs ≡ 8 → j < 8 → get_or (zip2 max xs (replicate 8 least)) j 0 ≡ max least (get_or xs j 0)
one xs least j eight lt =
    let swapped : max (get_or xs j 0) least ≡ max least (get_or xs j 0) = omega arith in
    get_or-zip2 max xs (replicate 8 least) j 0 0 0 (omega (arith, eight, lt)) lt ∙ ap (max (get_or xs j 0)) (get_or-replicate 8 j least 0 lt) ∙ swapped

pub returns : goal.returns
returns c =
    let xs = c.args.self.lows in
    let old = c.requires.mergeable in
    let each : (j : ℕ) → j < 8 → get_or c.no_less-lows.result j 0 ≡ max c.args.nearness (get_or xs j 0) =
    λ j lt. ap (λ ys. get_or ys j 0) c.no_less-lows.ensures ∙ one xs c.args.nearness j old.eight_lows lt in
    record {
      mergeable = record {
        eight_lows = ap length c.no_less-lows.ensures ∙ length-zip2 max xs (replicate 8 c.args.nearness) old.eight_lows ∙ old.eight_lows;
        eight_masks = old.eight_masks;
        within = λ j lt. let is = each j lt in let top = old.within j lt in omega (arith, is, top, c.requires.nearness);
      };
      lows = each;
      masks = refl;
    }
