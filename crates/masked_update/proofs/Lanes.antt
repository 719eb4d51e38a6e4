-- The states that eight lanes are seen as.
use Rattle.std.proofs.Common.{◌≡◌, ℕ, ◌<◌, List, length, map, ◌≤◌, false, cond, nat_lt, arith, ap, ◌∙◌, sym, slice_index_or, set, inl, inr}
use Rattle.std.specs.Int.{bit_at}
use Rattle.std.specs.Simd.Lanes.{mask_l}
use Rattle.std.proofs.lemmas.Bool.Decides.{nat_tests}
use Rattle.std.proofs.lemmas.Simd.{bit_mask_l}
use Rattle.std.proofs.lemmas.Bool.{cases_eq}
use Rattle.std.proofs.lemmas.Grind.{get_or-set_at}
use Rattle.std.proofs.lemmas.List.{get_or-map, ext_get_or, length-set, get_or-set_other}
use Rattle.std.proofs.lemmas.List.FromFn.{length-map-range_with_len, get_or-map-range_with_len}
use Rattle.cull_base.specs.State.{State, empty_state}
use Rattle.masked_update.specs.SubTile.{seen, Layers}
use Rattle.masked_update.specs.Lanes.{states_of, state_of, AreLayers}

pub state_at : (rs ws ms : List ℕ) (j : ℕ) → j < 8 → slice_index_or (states_of rs ws ms) j empty_state ≡ state_of rs ws ms j
unfolding states_of
state_at rs ws ms j h = get_or-map-range_with_len (state_of rs ws ms) 0 8 j j empty_state h (omega arith)

pub eight_states : (rs ws ms : List ℕ) → length (states_of rs ws ms) ≡ 8
unfolding states_of
eight_states rs ws ms = length-map-range_with_len (state_of rs ws ms) 0 8

-- a lane whose bit of a comparison is clear
pub behind_where_clear : (rs ws ms : List ℕ) (nearest j : ℕ) → length rs ≡ 8 → j < 8 → bit_at (mask_l (map (λ r. nat_lt r nearest) rs)) j ≡ 0 → nearest ≤ (slice_index_or (states_of rs ws ms) j empty_state).reference
behind_where_clear rs ws ms nearest j eight lt clear =
    let is = bit_mask_l (map (λ r. nat_lt r nearest) rs) j in
    let one : slice_index_or (map (λ r. nat_lt r nearest) rs) j false ≡ nat_lt (slice_index_or rs j 0) nearest = get_or-map (λ r. nat_lt r nearest) rs j 0 false (omega (arith, eight, lt)) in
    let e = sym clear ∙ is ∙ ap (λ b. cond b 1 0) one in
    let le : nearest ≤ slice_index_or rs j 0 = grind (arith, nat_tests) in
    let seen = ap (λ (s : State). s.reference) (state_at rs ws ms j lt) in
    omega (arith, le, seen)

-- where lane j has other layers
module _ (rs ws ms : List ℕ) (h : AreLayers rs ws ms) (j a b m : ℕ) (lt : j < 8) (is : Layers a b m) where
  pub layers_set : AreLayers (set rs j a) (set ws j b) (set ms j m)
  layers_set = record {
    eight_references = length-set rs j a ∙ h.eight_references;
    eight_workings = length-set ws j b ∙ h.eight_workings;
    eight_masks = length-set ms j m ∙ h.eight_masks;
    layers = λ k below. elim (cases_eq k j) [
      | inl e ↦
          let r = get_or-set_at rs j k a 0 e (omega (arith, lt, h.eight_references)) in
          let w = get_or-set_at ws j k b 0 e (omega (arith, lt, h.eight_workings)) in
          let n = get_or-set_at ms j k m 0 e (omega (arith, lt, h.eight_masks)) in
          rw (r, w, n) is
      | inr ne ↦
          let r = get_or-set_other rs j k a 0 ne in
          let w = get_or-set_other ws j k b 0 ne in
          let n = get_or-set_other ms j k m 0 ne in
          rw (r, w, n) (h.layers k below)
    ];
  }

  pub states_set : (s : State) → seen a b m ≡ s → states_of (set rs j a) (set ws j b) (set ms j m) ≡ set (states_of rs ws ms) j s
  states_set s e = ext_get_or empty_state (states_of (set rs j a) (set ws j b) (set ms j m)) (set (states_of rs ws ms) j s)
      (eight_states (set rs j a) (set ws j b) (set ms j m) ∙ sym (length-set (states_of rs ws ms) j s ∙ eight_states rs ws ms))
      (λ k below.
      let eight = eight_states (set rs j a) (set ws j b) (set ms j m) in
      let old = eight_states rs ws ms in
      let within : k < 8 = omega (arith, below, eight) in
      state_at (set rs j a) (set ws j b) (set ms j m) k within ∙ elim (cases_eq k j) [
        | inl at ↦
            let r = get_or-set_at rs j k a 0 at (omega (arith, lt, h.eight_references)) in
            let w = get_or-set_at ws j k b 0 at (omega (arith, lt, h.eight_workings)) in
            let n = get_or-set_at ms j k m 0 at (omega (arith, lt, h.eight_masks)) in
            let t = get_or-set_at (states_of rs ws ms) j k s empty_state at (omega (arith, lt, old)) in
            rw (r, w, n, t) e
        | inr ne ↦
            let r = get_or-set_other rs j k a 0 ne in
            let w = get_or-set_other ws j k b 0 ne in
            let n = get_or-set_other ms j k m 0 ne in
            let t = get_or-set_other (states_of rs ws ms) j k s empty_state ne in
            rw (r, w, n, t) (sym (state_at rs ws ms k within))
      ])
