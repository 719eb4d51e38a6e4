-- Tiles without their working layers hide what their references are nearer than.
use Rattle.std.proofs.Common.{◌≡◌, ℕ, zero, suc, pos, ◌+◌, ◌*◌, ◌%◌, ◌/◌, ◌<◌, Bool, true, false, ◌&&◌, ◌||◌, not, cond, nat_lt, nat_le, int_le, int_lt, arith, refl, ap, sym, ◌∙◌}
use Rattle.std.proofs.lemmas.Bool.{both_ways, and_parts, ltb-true}
use Rattle.std.proofs.lemmas.Bool.Decides.{nat_tests}
use Rattle.std.proofs.lemmas.Int.{ints}
use Rattle.cull_base.specs.declared.place.Sub.{Sub}
use Rattle.cull_base.specs.declared.rect.Rect.{Rect}
use Rattle.cull_base.specs.Fold.{IsLayered}
use Rattle.cull_base.specs.Pixels.{sub_of_pixel, sample_of_pixel, at_each_pixel, at_some_pixel, has_pixel}
use Rattle.cull_base.specs.Rectangle.{HasPixel, meets}
use Rattle.cull_base.specs.Screen.{Dimensions, screen_of, tile_columns_of}
use Rattle.cull_base.specs.Shape.{Flat, is_hidden}
use Rattle.cull_base.specs.State.{State, empty_state, samples_of, is_none, no_samples, step_with, hides}
use Rattle.cull_base.proofs.Bits.{has-no_samples, none-no_samples}
use Rattle.cull_base.proofs.HiddenObjects.{hidden_each, hidden_some}
use Rattle.cull_base.proofs.Rectangles.{meets_pixel}
use Rattle.masked_update.proofs.Merging.{one_of_eight}
use Rattle.masked_update.specs.TileOf.{TileOf, sub_at}
use Rattle.masked_update.specs.Views.{state_in}
use Rattle.rect_query.proofs.Areas.{held_axis}
use Rattle.rect_query.specs.References.{bare_state, bare_sub, bare_tile}
use Rattle.rect_query.specs.Settled.{is_settled}

-- a reference that is merged at every sample of an empty subtile
pub merged_bare : (r : ℕ) → step_with empty_state r (samples_of 4294967295) ≡ bare_state r
unfolding step_with samples_of
merged_bare zero = refl
merged_bare (suc r) = let nearer : nat_le (suc r) 0 ≡ false = grind (arith, nat_tests) in rw nearer refl

pub bare_at : (t : TileOf) (j : ℕ) → j < 8 → sub_at (bare_tile t) j ≡ bare_sub t j
unfolding bare_tile
bare_at t j lt = one_of_eight (bare_sub t) j lt

pub bare_layered : (r : ℕ) → IsLayered (bare_state r)
bare_layered r = record { above = λ e. absurd (both_ways (is_none no_samples) e none-no_samples); none = λ _. refl }

-- a sample of such a state hides what its reference is nearer than
bare_hides : (r k q : ℕ) → hides (bare_state r) k q ≡ nat_lt q r
bare_hides r k q = ap (λ b. nat_lt q (cond b 0 r)) (has-no_samples k)

-- a rectangle is settled where it is hidden by the references alone
pub settled_is_hidden : (size : Dimensions) (f : Sub → State) (r : Rect) (q : ℕ) → is_hidden size (λ u. bare_state (f u).reference) (Flat r q) ≡ is_settled size f r q
unfolding is_hidden is_settled
settled_is_hidden size f r q =
    ap (λ (test : ℕ → ℕ → Bool). at_some_pixel size (has_pixel r) && at_each_pixel size (λ px py. not (has_pixel r px py) || test px py))
    (λ i px py. bare_hides (f (sub_of_pixel px py)).reference (sample_of_pixel px py) q i)

-- the reference of each pixel of a settled rectangle is nearer
pub settled_each : (size : Dimensions) (f : Sub → State) (r : Rect) (q : ℕ) → is_settled size f r q ≡ true → (px py : ℕ) → px < size.width → py < size.height → has_pixel r px py ≡ true
    → q < (f (sub_of_pixel px py)).reference
settled_each size f r q e px py x y has =
    let bare : Sub → State = λ u. bare_state (f u).reference in
    let hidden = hidden_each size bare (Flat r q) (settled_is_hidden size f r q ∙ e) px py x y has in
    ltb-true q (f (sub_of_pixel px py)).reference (sym (bare_hides (f (sub_of_pixel px py)).reference (sample_of_pixel px py) q) ∙ hidden)

-- and it has such a pixel
pub settled_some : (size : Dimensions) (f : Sub → State) (r : Rect) (q : ℕ) → is_settled size f r q ≡ true → (px : ℕ) × (py : ℕ) × (px < size.width) × (py < size.height) × (has_pixel r px py ≡ true)
settled_some size f r q e = hidden_some size (λ u. bare_state (f u).reference) (Flat r q) (settled_is_hidden size f r q ∙ e)

in_tile : (u : Sub) → 4 * (u.row % 2) + u.column % 4 < 8
in_tile u = omega arith

pub bare_states : (size : Dimensions) (tile_of : ℕ → TileOf) → state_in size (λ k. bare_tile (tile_of k)) ≡ (λ u. bare_state (state_in size tile_of u).reference)
bare_states size tile_of = λ i u. bare_at (tile_of (u.row / 2 * tile_columns_of size + u.column / 4)) (4 * (u.row % 2) + u.column % 4) (in_tile u) i

pixel_in : (r : Rect) (px py : ℕ) → has_pixel r px py ≡ true → HasPixel r (pos px) (pos py)
pixel_in r px py t =
    let both = and_parts (int_le r.x0 (pos px) && int_lt (pos px) r.x1) (int_le r.y0 (pos py) && int_lt (pos py) r.y1) t in
    let h = held_axis r.x0 r.x1 px both.0 in let v = held_axis r.y0 r.y1 py both.1 in (h.0, h.1, v.0, v.1)

pixel_on : (size : Dimensions) (px py : ℕ) → px < size.width → py < size.height → HasPixel (screen_of size) (pos px) (pos py)
pixel_on size px py x y = (omega (arith, ints), omega (arith, ints, x), omega (arith, ints), omega (arith, ints, y))

-- a rectangle without a pixel in the screen isn't settled
pub unmet_unsettled : (size : Dimensions) (f : Sub → State) (r : Rect) (q : ℕ) → meets r (screen_of size) ≡ false → false ≡ is_settled size f r q
unmet_unsettled size f r q unmet = by (is_settled size f r q) refl
  where
    by : (b : Bool) → is_settled size f r q ≡ b → false ≡ b
    by false e = refl
    by true e =
        let (px, py, x, y, has) = settled_some size f r q e in
        absurd (both_ways (meets r (screen_of size)) unmet ((meets_pixel r (screen_of size)).1 (pos px, pos py, pixel_in r px py has, pixel_on size px py x y)))
