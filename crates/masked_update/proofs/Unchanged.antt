-- Pieces that change nothing in a subtile.
use Rattle.std.proofs.Common.{◌≡◌, ℕ, ◌<◌, ◌≤◌, Bool, true, false, arith, refl, ap, ◌∙◌, sym, length, max, pos}
use Rattle.std.proofs.lemmas.Bool.{cond-true, or_left, or_right, le-leb}
use Rattle.std.proofs.lemmas.Int.{ints}
use Rattle.std.proofs.lemmas.List.FromFn.{get_or-map-range_with_len}
use Rattle.cull_base.specs.State.{State, step_with, is_none, has, samples_of}
use Rattle.cull_base.specs.Fold.{step}
use Rattle.cull_base.specs.Piece.{Piece, IsPiece, Point, covered, covers, sample, each_sample, nearness}
use Rattle.cull_base.specs.Depth.{low_of, greatest_nearness, denominator, DepthAtLeast}
use Rattle.cull_base.specs.declared.place.Sub.{Sub}
use Rattle.cull_base.proofs.Bits.{one_of, none-no_samples}
use Rattle.depth_plane.proofs.Products.{le_from_times}
use Rattle.depth_plane.proofs.Mean.{weights_of, touches_covered, numerator_below}
use Rattle.depth_plane.proofs.Depths.{low_of-below}

pub length-covered : (t : Piece) (u : Sub) → length (covered t u) ≡ 32
unfolding covered each_sample
length-covered t u = refl

pub has-covered : (t : Piece) (u : Sub) (k : ℕ) → k < 32 → has (covered t u) k ≡ covers t (sample u k)
unfolding covered each_sample
has-covered t u k h = get_or-map-range_with_len (λ j. covers t (sample u j)) 0 32 k k false h (omega arith)

pub step_none : (u : Sub) (s : State) (t : Piece) → is_none (covered t u) ≡ true → step u s t ≡ s
unfolding step_with
step_none u s t e = cond-true _ _ _ (or_left _ _ e)

step_not_nearer : (u : Sub) (s : State) (t : Piece) → low_of t u ≤ s.reference → step u s t ≡ s
unfolding step_with
step_not_nearer u s t h = cond-true _ _ _ (or_right _ _ (le-leb _ _ h))

-- the low bound is no greater than the depth at a covered sample
pub low_reached : (t : Piece) (u : Sub) (k : ℕ) → IsPiece t → k < 32 → covers t (sample u k) ≡ true → DepthAtLeast t (sample u k) (low_of t u)
low_reached t u k piece h c = low_of-below t u k piece h (touches_covered t (sample u k) c)

-- where a piece covers a point, its depth there is at most its greatest nearness
pub depth_within : (t : Piece) (p : Point) (v : ℕ) → IsPiece t → covers t p ≡ true → DepthAtLeast t p v → v ≤ greatest_nearness t
depth_within t p v piece c deep =
    let a = nearness t 0 in let b = nearness t 1 in let d = nearness t 2 in
    let y = numerator_below t p (greatest_nearness t) (weights_of t p (touches_covered t p c)) (first a b d) (second a b d) (third a b d) in
    let z = le_from_times (pos v) (pos (greatest_nearness t)) (denominator t) piece.positive_area (omega (arith, ints, deep, y)) in
    omega (arith, ints, z)
  where
    first : (a b c : ℕ) → a ≤ max a (max b c)
    first a b c = omega arith

    second : (a b c : ℕ) → b ≤ max a (max b c)
    second a b c = omega arith

    third : (a b c : ℕ) → c ≤ max a (max b c)
    third a b c = omega arith

pub low_le_greatest : (t : Piece) (u : Sub) (k : ℕ) → IsPiece t → k < 32 → covers t (sample u k) ≡ true → low_of t u ≤ greatest_nearness t
low_le_greatest t u k piece h c = depth_within t (sample u k) (low_of t u) piece c (low_reached t u k piece h c)

-- a step changes nothing if it changes nothing wherever a sample is covered
pub step_unless_covered : (u : Sub) (s : State) (t : Piece) → ((k : ℕ) → k < 32 → covers t (sample u k) ≡ true → step u s t ≡ s) → step u s t ≡ s
step_unless_covered u s t stays = by (is_none (covered t u)) refl
  where
    by : (b : Bool) → is_none (covered t u) ≡ b → step u s t ≡ s
    by true e = step_none u s t e
    by false e =
        let o = one_of (covered t u) e in
        let n = length-covered t u in
        let below : o.0 < 32 = omega (arith, o.1) in
        stays o.0 below (sym (has-covered t u o.0 below) ∙ o.2)

-- a piece that is nowhere nearer than the reference
pub step_behind : (u : Sub) (s : State) (t : Piece) → IsPiece t → greatest_nearness t ≤ s.reference → step u s t ≡ s
step_behind u s t p le = step_unless_covered u s t (λ k below c. step_not_nearer u s t (omega (arith, le, low_le_greatest t u k p below c)))

-- a piece that covers none of its samples
pub step_empty : (u : Sub) (s : State) (t : Piece) (mask : ℕ) → samples_of mask ≡ covered t u → mask ≡ 0 → step u s t ≡ s
step_empty u s t mask is e = step_none u s t (ap is_none (sym is ∙ ap samples_of e) ∙ none-no_samples)

pub step_with-none : (s : State) (t : ℕ) → step_with s t (samples_of 0) ≡ s
unfolding step_with
step_with-none s t = cond-true _ _ _ (or_left _ _ none-no_samples)
