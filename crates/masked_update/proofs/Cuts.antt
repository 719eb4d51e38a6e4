-- A bound that is cut at a lower top is the same wherever the piece covers a sample.
use Rattle.std.proofs.Common.{◌≡◌, ℕ, ℤ, pos, negsuc, ◌<◌, ◌≤◌, Bool, true, false, arith, refl, ap, ◌∙◌, sym, List}
use Rattle.std.specs.Int.{int_max}
use Rattle.std.proofs.lemmas.Bool.{cond-true, or_left}
use Rattle.cull_base.specs.State.{State, step_with, is_none}
use Rattle.cull_base.specs.Fold.{step}
use Rattle.cull_base.specs.Piece.{Piece, IsPiece, covered, sample, each_sample, least_of}
use Rattle.cull_base.specs.Depth.{low_of, low_up_to, cut_to_range, floor_of, numerator, denominator, least_nearness, greatest_nearness}
use Rattle.cull_base.specs.declared.place.Sub.{Sub}
use Rattle.cull_base.specs.declared.nearness.TheConstants.{HELD_TOP}
use Rattle.cull_base.proofs.Bits.{one_of}
use Rattle.masked_update.specs.Cuts.{step_up_to}
use Rattle.masked_update.proofs.Unchanged.{length-covered, has-covered, step_none, low_le_greatest}

-- a number that is cut at b to no more than a
cut_same : (z : ℤ) (a b : ℕ) → cut_to_range b z ≤ a → a ≤ b → cut_to_range a z ≡ cut_to_range b z
cut_same (pos n) a b h l = omega arith
cut_same (negsuc n) a b h l = refl

low_same : (top : ℕ) (t : Piece) (u : Sub) → low_of t u ≤ top → top ≤ HELD_TOP → low_up_to top t u ≡ low_of t u
unfolding low_of
low_same top t u h l =
    cut_same (int_max (pos (least_nearness t)) (floor_of (least_of (each_sample (λ k. numerator t (sample u k)))) (denominator t))) top HELD_TOP h l

none_merged : (s : State) (t : ℕ) (c : List Bool) → is_none c ≡ true → step_with s t c ≡ s
unfolding step_with
none_merged s t c e = cond-true _ _ _ (or_left _ _ e)

pub same_step : (top : ℕ) (u : Sub) (s : State) (t : Piece) → IsPiece t → greatest_nearness t ≤ top → top ≤ HELD_TOP → step_up_to top u s t ≡ step u s t
same_step top u s t piece le within = by (is_none (covered t u)) refl
  where
    by : (b : Bool) → is_none (covered t u) ≡ b → step_up_to top u s t ≡ step u s t
    by true e = none_merged s (low_up_to top t u) (covered t u) e ∙ sym (step_none u s t e)
    by false e =
        let o = one_of (covered t u) e in
        let n = length-covered t u in
        let below : o.0 < 32 = omega (arith, o.1) in
        let bound = low_le_greatest t u o.0 piece below (sym (has-covered t u o.0 below) ∙ o.2) in
        ap (λ l. step_with s l (covered t u)) (low_same top t u (omega (arith, bound, le)) within)
