-- The fields of eight subtiles are given back by the states that they are seen as.
use Rattle.std.specs.Prelude.{ℕ, ◌≡◌, ◌<◌, List, length, map, slice_index_or}
use Rattle.std.specs.List.{range_with_len}
use Rattle.std.specs.Simd.Lanes.{mask_l}
use Rattle.std.proofs.Common.{refl, ap, ◌∙◌, sym, arith}
use Rattle.std.proofs.lemmas.List.{ext_get_or}
use Rattle.std.proofs.lemmas.List.FromFn.{length-map-range_with_len, get_or-map-range_with_len}
use Rattle.cull_base.specs.State.{State, samples_of}
use Rattle.cull_base.proofs.Bits.{mask_l-samples_of}
use Rattle.masked_update.specs.Lanes.{states_of, AreLayers}
use Rattle.masked_update.specs.declared.tile_layers.TileLayers.TheInside.{Inside}

-- eight numbers, each by its place
pub eight_numbers : (f : ℕ → ℕ) (xs : List ℕ) → length xs ≡ 8 → ((j : ℕ) → j < 8 → f j ≡ slice_index_or xs j 0) → map f (range_with_len 0 8) ≡ xs
eight_numbers f xs eight each = ext_get_or 0 (map f (range_with_len 0 8)) xs (length-map-range_with_len f 0 8 ∙ sym eight)
    (λ j h. let below : j < 8 = omega (arith, h, length-map-range_with_len f 0 8) in get_or-map-range_with_len f 0 8 j j 0 below (omega arith) ∙ each j below)

references_back : (r w m : List ℕ) → AreLayers r w m → map (λ (t : State). t.reference) (states_of r w m) ≡ r
unfolding states_of
references_back r w m h = eight_numbers (λ j. slice_index_or r j 0) r h.eight_references (λ j _. refl)

workings_back : (r w m : List ℕ) → AreLayers r w m → map (λ (t : State). t.working) (states_of r w m) ≡ w
unfolding states_of
workings_back r w m h = eight_numbers (λ j. slice_index_or w j 0) w h.eight_workings (λ j _. refl)

masks_back : (r w m : List ℕ) → AreLayers r w m → map (λ (t : State). mask_l t.samples) (states_of r w m) ≡ m
unfolding states_of
masks_back r w m h = eight_numbers (λ j. mask_l (samples_of (slice_index_or m j 0))) m h.eight_masks
    (λ j lt. let full = (h.layers j lt).not_full in mask_l-samples_of (slice_index_or m j 0) (omega (arith, full)))

lanes_of : List ℕ → List ℕ → List ℕ → Inside
lanes_of r w m = record { references = r; workings = w; masks = m }

pub lanes_back : (s : Inside) → AreLayers s.references s.workings s.masks
    → let v = states_of s.references s.workings s.masks in
    record { references = map (λ (t : State). t.reference) v; workings = map (λ (t : State). t.working) v; masks = map (λ (t : State). mask_l t.samples) v } ≡ s
unfolding lanes_of
lanes_back s h =
    let v = states_of s.references s.workings s.masks in
    ap (λ r. lanes_of r (map (λ (t : State). t.working) v) (map (λ (t : State). mask_l t.samples) v)) (references_back s.references s.workings s.masks h)
    ∙ ap (λ w. lanes_of s.references w (map (λ (t : State). mask_l t.samples) v)) (workings_back s.references s.workings s.masks h)
    ∙ ap (λ m. lanes_of s.references s.workings m) (masks_back s.references s.workings s.masks h)
