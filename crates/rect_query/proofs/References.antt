-- Along a list no reference falls, and no bound is below its reference.
use Rattle.std.proofs.Common.{◌≡◌, ℕ, zero, suc, ◌+◌, ◌<◌, ◌≤◌, List, [], ◌∷◌, Bool, true, false, ◌||◌, cond, length, take, nat_le, arith, refl, subst}
use Rattle.std.specs.List.{fold}
use Rattle.std.proofs.lemmas.Bool.{both_ways, or_parts, leb-false}
use Rattle.std.proofs.lemmas.List.{take_all}
use Rattle.cull_base.specs.declared.place.Sub.{Sub}
use Rattle.cull_base.specs.Depth.{low_of}
use Rattle.cull_base.specs.Fold.{step, after, IsLayered}
use Rattle.cull_base.specs.Piece.{Piece, covered}
use Rattle.cull_base.specs.Screen.{tile_sub, is_on_screen}
use Rattle.cull_base.specs.State.{State, empty_state, is_none, is_all, union, has, no_samples, step_with, samples_left, lowered_depth, raised_if_full, bound_at}
use Rattle.cull_base.specs.Tiles.{PieceList, tile_list}
use Rattle.cull_base.proofs.Bits.{has-none, none-no_samples}
use Rattle.masked_update.proofs.Merging.{one_of_eight}
use Rattle.masked_update.proofs.Sounds.{Reached, step_reached, empty_reached}
use Rattle.masked_update.proofs.Unchanged.{length-covered}
use Rattle.rect_query.specs.Settled.{ReferenceHolds, prefixed_sub}

-- 32 samples and layers in order, which each step keeps
abbrev IsKept : State → Type 0
IsKept s = Reached (λ k v. Unit {0}) s

kept_step : (u : Sub) (s : State) (x : Piece) → IsKept s → IsKept (step u s x)
kept_step u s x kept = step_reached (λ k v. Unit {0}) (λ k v. Unit {0}) (λ k v w le t. tt) (λ k v t. tt) s (low_of x u) (covered x u) (length-covered x u) (λ k lt c. tt) kept

kept_along : (u : Sub) (xs : List Piece) (s : State) → IsKept s → IsKept (fold (step u) s xs)
kept_along u [] s kept = kept
kept_along u (x ∷ xs) s kept = kept_along u xs (step u s x) (kept_step u s x kept)

-- samples that are left are those that were there
left_some : (b : Bool) (samples : List Bool) → is_none (cond b no_samples samples) ≡ false → is_none samples ≡ false
left_some true samples e = absurd (both_ways (is_none no_samples) e none-no_samples)
left_some false samples e = e

step_rises : (s : State) (t : ℕ) (c : List Bool) → IsLayered s → s.reference ≤ (step_with s t c).reference
unfolding step_with
step_rises s t c layered = by (is_none c || nat_le t s.reference) refl (is_all (union (samples_left s t) c)) refl
  where
    deeper : (b : Bool) → is_none (samples_left s t) ≡ b → s.reference < t → s.reference ≤ lowered_depth s t (samples_left s t)
    deeper true e lt = rw e (omega (arith, lt))
    deeper false e lt = let above = layered.above (left_some _ s.samples e) in rw e (omega (arith, lt, above))

    by : (x : Bool) → (is_none c || nat_le t s.reference) ≡ x → (y : Bool) → is_all (union (samples_left s t) c) ≡ y
        → s.reference ≤ (cond (is_none c || nat_le t s.reference) s (raised_if_full s.reference (lowered_depth s t (samples_left s t)) (union (samples_left s t) c))).reference
    by true e y f = rw e (omega arith)
    by false e true f = let p = or_parts (is_none c) (nat_le t s.reference) e in rw (e, f) (deeper (is_none (samples_left s t)) refl (leb-false t s.reference p.1))
    by false e false f = rw (e, f) (omega arith)

rises_along : (u : Sub) (xs : List Piece) (s : State) → IsKept s → s.reference ≤ (fold (step u) s xs).reference
rises_along u [] s kept = omega arith
rises_along u (x ∷ xs) s kept =
    let first = step_rises s (low_of x u) (covered x u) kept.layered in
    let rest = rises_along u xs (step u s x) (kept_step u s x kept) in
    omega (arith, first, rest)

fronts_rise : (u : Sub) (xs : List Piece) (k l : ℕ) (s : State) → IsKept s → k ≤ l → (fold (step u) s (take k xs)).reference ≤ (fold (step u) s (take l xs)).reference
fronts_rise u xs zero l s kept le = rises_along u (take l xs) s kept
fronts_rise u xs (suc k) zero s kept le = absurd (omega (arith, le))
fronts_rise u [] (suc k) (suc l) s kept le = omega arith
fronts_rise u (x ∷ xs) (suc k) (suc l) s kept le = fronts_rise u xs k l (step u s x) (kept_step u s x kept) (omega (arith, le))

-- of the states of a subtile after fronts of a list, that after the longer has no lesser reference
pub after_rises : (u : Sub) (xs : List Piece) (k l : ℕ) → k ≤ l → (after u (take k xs)).reference ≤ (after u (take l xs)).reference
unfolding after
after_rises u xs k l le = fronts_rise u xs k l empty_state (empty_reached (λ k v. Unit {0})) le

pub after_layered : (u : Sub) (xs : List Piece) → IsLayered (after u xs)
unfolding after
after_layered u xs = (kept_along u xs empty_state (empty_reached (λ k v. Unit {0}))).layered

-- no front has a greater reference than the whole list
pub whole_rises : (u : Sub) (xs : List Piece) (k : ℕ) → (after u (take k xs)).reference ≤ (after u xs).reference
whole_rises u xs k = subst (λ (ys : List Piece). (after u (take k xs)).reference ≤ (after u ys).reference) (take_all (k + length xs) xs (omega arith)) (after_rises u xs k (k + length xs) (omega arith))

bound_holds : (s : State) (k : ℕ) → IsLayered s → s.reference ≤ bound_at s k
bound_holds s k layered = by (has s.samples k) (is_none s.samples) refl refl
  where
    by : (b n : Bool) → has s.samples k ≡ b → is_none s.samples ≡ n → s.reference ≤ bound_at s k
    by false n e f = rw e (omega arith)
    by true true e f = absurd (both_ways (has s.samples k) (has-none s.samples k f) e)
    by true false e f = let above = layered.above f in rw e (omega (arith, above))

-- subtile j of a tile, which is empty outside the screen
abbrev sub_after : PieceList → ℕ → ℕ → ℕ → State
sub_after list tile j k = let u = tile_sub list.size tile j in cond (is_on_screen list.size u) (after u (take k (tile_list tile list))) empty_state

sub_is : (list : PieceList) (tile j k : ℕ) → j < 8 → prefixed_sub list tile j k ≡ sub_after list tile j k
sub_is list tile j k lt = one_of_eight (λ i. sub_after list tile i k) j lt

pub references_hold : (list : PieceList) (tile j k l : ℕ) → j < 8 → k ≤ l → ReferenceHolds list tile j k l
references_hold list tile j k l lt le = record {
  rises = rw (sub_is list tile j k lt, sub_is list tile j l lt) (rises (is_on_screen list.size u));
  below = λ sample h. rw (sub_is list tile j l lt) (bound_holds (sub_after list tile j l) sample (layered (is_on_screen list.size u)));
}
  where
    u : Sub
    u = tile_sub list.size tile j

    rises : (b : Bool) → (cond b (after u (take k (tile_list tile list))) empty_state).reference ≤ (cond b (after u (take l (tile_list tile list))) empty_state).reference
    rises true = after_rises u (tile_list tile list) k l le
    rises false = omega arith

    layered : (b : Bool) → IsLayered (cond b (after u (take l (tile_list tile list))) empty_state)
    layered true = after_layered u (take l (tile_list tile list))
    layered false = (empty_reached (λ k v. Unit {0})).layered
