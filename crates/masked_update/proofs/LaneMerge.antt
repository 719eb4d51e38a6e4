-- The merge of eight subtiles in lanes: in each lane it is the step.
use Rattle.std.proofs.Common.{◌≡◌, ◌≢◌, ℕ, ◌+◌, ◌*◌, ◌%◌, ◌<◌, ◌≤◌, ◌^◌, List, [], ◌∷◌, length, map, Bool, true, false, not, ◌&&◌, cond, min, nat_eq, nat_lt, bit_or, arith, refl, ap, ◌∙◌, sym, subst, inl, inr, ◌⊎◌, slice_index_or}
use Rattle.std.specs.Simd.Lanes.{zip2, sel_l, top}
use Rattle.std.proofs.lemmas.Bool.Decides.{nat_tests}
use Rattle.std.specs.List.{range_with_len}
use Rattle.std.proofs.lemmas.Bool.{cases_eq}
use Rattle.std.proofs.lemmas.List.FromFn.{length-map-range_with_len, get_or-map-range_with_len}
use Rattle.cull_base.specs.declared.nearness.TheConstants.{HELD_TOP}
use Rattle.cull_base.specs.State.{empty_state, samples_of, step_with}
use Rattle.masked_update.specs.SubTile.{seen, Layers}
use Rattle.masked_update.specs.Lanes.{states_of, AreLayers}
use Rattle.masked_update.specs.LanesBack.{eight_numbers}
use Rattle.masked_update.proofs.Lanes.{state_at}
use Rattle.masked_update.proofs.Steps.{stays, step_filled, step_more, next_layers, filled_layers, lowered_within}

-- what the lanes compute of eight references, workings, masks, bounds and covered samples
abbrev tests : (ℕ → ℕ → Bool) → List ℕ → List ℕ → List Bool
tests test xs ys = map (top 31) (zip2 (λ a b. cond (test a b) 4294967295 0) xs ys)

abbrev all : ℕ → List ℕ
all n = n ∷ n ∷ n ∷ n ∷ n ∷ n ∷ n ∷ n ∷ []

abbrev sums : List ℕ → List ℕ → List ℕ
sums xs ys = zip2 (λ a b. (a + b) % 4294967296) xs ys

abbrev bounds : List ℕ → List ℕ → List ℕ
bounds ls cs = sel_l (tests nat_eq cs (all 0)) (all 0) ls

abbrev lefts : List ℕ → List ℕ → List ℕ → List ℕ → List ℕ
lefts rs ws ms ts = sel_l (tests nat_lt (sums ws ws) (sums ts rs)) (all 0) ms

abbrev lowereds : List ℕ → List ℕ → List ℕ → List ℕ
lowereds ws ks ts = sel_l (tests nat_eq ks (all 0)) ts (sel_l (tests nat_lt ws ts) ws ts)

abbrev joineds : List ℕ → List ℕ → List ℕ
joineds ks cs = zip2 (λ a b. bit_or a b) ks cs

abbrev fulls : List ℕ → List Bool
fulls ns = tests nat_eq ns (all 4294967295)

abbrev pub new_references : List ℕ → List ℕ → List ℕ → List ℕ → List ℕ → List ℕ
new_references rs ws ms ls cs =
    let ts = bounds ls cs in
    let ks = lefts rs ws ms ts in
    let fs = sel_l (fulls (joineds ks cs)) (lowereds ws ks ts) (all 0) in
    sel_l (tests nat_lt rs fs) fs rs

abbrev pub new_workings : List ℕ → List ℕ → List ℕ → List ℕ → List ℕ → List ℕ
new_workings rs ws ms ls cs =
    let ts = bounds ls cs in
    let ks = lefts rs ws ms ts in
    sel_l (tests nat_lt rs ts) (sel_l (fulls (joineds ks cs)) (all 0) (lowereds ws ks ts)) ws

abbrev pub new_masks : List ℕ → List ℕ → List ℕ → List ℕ → List ℕ → List ℕ
new_masks rs ws ms ls cs =
    let ts = bounds ls cs in
    let ks = lefts rs ws ms ts in
    sel_l (tests nat_lt rs ts) (sel_l (fulls (joineds ks cs)) (all 0) (joineds ks cs)) ms

-- what one lane computes
abbrev told : (ℕ → ℕ → Bool) → ℕ → ℕ → Bool
told test a b = top 31 (cond (test a b) 4294967295 0)

abbrev bound_at : ℕ → ℕ → ℕ
bound_at l c = cond (told nat_eq c 0) 0 l

abbrev left_at : ℕ → ℕ → ℕ → ℕ → ℕ
left_at a w m t = cond (told nat_lt ((w + w) % 4294967296) ((t + a) % 4294967296)) 0 m

abbrev lowered_at : ℕ → ℕ → ℕ → ℕ
lowered_at w k t = cond (told nat_eq k 0) t (cond (told nat_lt w t) w t)

-- the greater of the reference and a full layer's depth
abbrev raised_at : ℕ → ℕ → ℕ → ℕ → ℕ → ℕ
raised_at a w m l c =
    let t = bound_at l c in
    let k = left_at a w m t in
    let f = cond (told nat_eq (bit_or k c) 4294967295) (lowered_at w k t) 0 in
    cond (told nat_lt a f) f a

-- and by cases
abbrev reference_at : ℕ → ℕ → ℕ → ℕ → ℕ → ℕ
reference_at a w m l c =
    let t = bound_at l c in
    let k = left_at a w m t in
    cond (told nat_lt a t) (cond (told nat_eq (bit_or k c) 4294967295) (lowered_at w k t) a) a

abbrev working_at : ℕ → ℕ → ℕ → ℕ → ℕ → ℕ
working_at a w m l c =
    let t = bound_at l c in
    let k = left_at a w m t in
    cond (told nat_lt a t) (cond (told nat_eq (bit_or k c) 4294967295) 0 (lowered_at w k t)) w

abbrev mask_of : ℕ → ℕ → ℕ → ℕ → ℕ → ℕ
mask_of a w m l c =
    let t = bound_at l c in
    let k = left_at a w m t in
    cond (told nat_lt a t) (cond (told nat_eq (bit_or k c) 4294967295) 0 (bit_or k c)) m

pub told_is : (b : Bool) → top 31 (cond b 4294967295 0) ≡ b
told_is true = refl
told_is false = refl

-- the layers after a step
record IsLaneStep (a w m l c a' w' m' : ℕ) : Type 0 where
  pub step : seen a' w' m' ≡ step_with (seen a w m) l (samples_of c)
  pub layers : Layers a' w' m'

lane_by : (a w m l c t k b n : ℕ) (live full : Bool) → Layers a w m → l ≤ HELD_TOP → c < 2 ^ 32 → t ≡ cond (nat_eq c 0) 0 l → k ≡ cond (nat_lt (w + w) (t + a)) 0 m → b ≡ cond (nat_eq k 0) t (cond (nat_lt w t) w t)
    → n ≡ bit_or k c → live ≡ nat_lt a t → full ≡ nat_eq n 4294967295 → IsLaneStep a w m l c (cond live (cond full b a) a) (cond live (cond full 0 b) w) (cond live (cond full 0 n) m)
lane_by a w m l c t k b n false full h hl hc et ek eb en e f =
    let behind : (c ≡ 0) ⊎ (l ≤ a) = (elim (cases_eq c 0) [
      | inl z ↦ inl z
      | inr nz ↦ inr (grind (arith, nat_tests))
    ]) in
    record { step = sym (stays (seen a w m) l c hc behind); layers = h }
lane_by a w m l c t k b n true full h hl hc et ek eb en e f = by full f
  where
    some : c ≢ 0
    some z = grind (arith, nat_tests)

    same : t ≡ l
    same = grind (arith, nat_tests)

    nearer : a < l
    nearer = grind (arith, nat_tests)

    within : k < 2 ^ 32
    within = let full = h.not_full in grind (arith, nat_tests)

    left : k ≡ cond (not (nat_eq m 0) && nat_lt (2 * w) (l + a)) 0 m
    left = grind (arith, nat_tests)

    lowered : b ≡ cond (nat_eq k 0) l (min w l)
    lowered = grind (arith, nat_tests)

    by : (x : Bool) → x ≡ nat_eq n 4294967295 → IsLaneStep a w m l c (cond x b a) (cond x 0 b) (cond x 0 n)
    by true p =
        let all : bit_or k c ≡ 4294967295 = grind (arith, nat_tests) in
        record {
          step = step_filled a w m l c k b (seen a w m) refl h hc within some nearer left lowered all;
          layers = filled_layers b (lowered_within w l k b h.working_within hl lowered);
        }
    by false p =
        let part : bit_or k c ≢ 4294967295 = λ z. grind (arith, nat_tests) in
        rw en (record {
          step = step_more a w m l c k b (seen a w m) refl h hc within some nearer left lowered part;
          layers = next_layers a w m l c k b h hl hc within some nearer left lowered part;
        })

-- what is left of the layer, where nothing wraps
left_is : (a w m l c : ℕ) → Layers a w m → l ≤ HELD_TOP → left_at a w m (bound_at l c) ≡ cond (nat_lt (w + w) (bound_at l c + a)) 0 m
left_is a w m l c h hl = small (bound_at l c) (ap (λ x. cond x 0 l) (told_is (nat_eq c 0)))
  where
    small : (t : ℕ) → t ≡ cond (nat_eq c 0) 0 l → left_at a w m t ≡ cond (nat_lt (w + w) (t + a)) 0 m
    small t e =
        let ha = h.reference_within in
        let hw = h.working_within in
        let ht : t ≤ HELD_TOP = grind (arith, nat_tests) in
        let ew : (w + w) % 4294967296 ≡ w + w = omega arith in
        let ea : (t + a) % 4294967296 ≡ t + a = omega arith in
        ap (λ x. cond x 0 m) (told_is (nat_lt ((w + w) % 4294967296) ((t + a) % 4294967296)) ∙ ap (λ x. nat_lt x ((t + a) % 4294967296)) ew ∙ ap (nat_lt (w + w)) ea)

-- the depth of the layer
lowered_is : (w k t : ℕ) → lowered_at w k t ≡ cond (nat_eq k 0) t (cond (nat_lt w t) w t)
lowered_is w k t = ap (λ x. cond x t (cond (told nat_lt w t) w t)) (told_is (nat_eq k 0)) ∙ ap (λ x. cond (nat_eq k 0) t (cond x w t)) (told_is (nat_lt w t))

-- a full layer's depth is above the reference just where the bound is
raised_is : (a w m t k b : ℕ) → (0 < m → a < w) → k ≡ cond (nat_lt (w + w) (t + a)) 0 m → b ≡ cond (nat_eq k 0) t (cond (nat_lt w t) w t) → (full : Bool)
    → cond (nat_lt a (cond full b 0)) (cond full b 0) a ≡ cond (nat_lt a t) (cond full b a) a
raised_is a w m t k b near ek eb true = elim (cases_eq k 0) [
  | inl z ↦ let e : b ≡ t = grind (arith, nat_tests) in ap (λ x. cond (nat_lt a x) b a) e
  | inr some ↦
      let kept : k ≡ m = grind (arith, nat_tests) in
      let above : a < w = near (omega (arith, kept, some)) in
      let lesser : b ≡ cond (nat_lt w t) w t = grind (arith, nat_tests) in
      grind (arith, nat_tests)
]
raised_is a w m t k b near ek eb false = grind (arith, nat_tests)

raised-is-reference : (a w m l c : ℕ) → Layers a w m → l ≤ HELD_TOP → raised_at a w m l c ≡ reference_at a w m l c
raised-is-reference a w m l c h hl =
    let t = bound_at l c in
    let k = left_at a w m t in
    let b = lowered_at w k t in
    let full = told nat_eq (bit_or k c) 4294967295 in
    ap (λ x. cond x (cond full b 0) a) (told_is (nat_lt a (cond full b 0)))
    ∙ raised_is a w m t k b h.working_nearer (left_is a w m l c h hl) (lowered_is w k t) full
    ∙ ap (λ x. cond x (cond full b a) a) (sym (told_is (nat_lt a t)))

one_lane : (a w m l c : ℕ) → Layers a w m → l ≤ HELD_TOP → c < 2 ^ 32 → IsLaneStep a w m l c (reference_at a w m l c) (working_at a w m l c) (mask_of a w m l c)
one_lane a w m l c h hl hc =
    let t = bound_at l c in
    let k = left_at a w m t in
    let b = lowered_at w k t in
    let et : t ≡ cond (nat_eq c 0) 0 l = ap (λ x. cond x 0 l) (told_is (nat_eq c 0)) in
    lane_by a w m l c t k b (bit_or k c) (told nat_lt a t) (told nat_eq (bit_or k c) 4294967295) h hl hc et (left_is a w m l c h hl) (lowered_is w k t)
    refl (told_is (nat_lt a t)) (told_is (nat_eq (bit_or k c) 4294967295))

-- a number for each of eight lanes
abbrev eight : (ℕ → ℕ) → List ℕ
eight f = map f (range_with_len 0 8)

abbrev at : List ℕ → ℕ → ℕ
at xs j = slice_index_or xs j 0

at-eight : (f : ℕ → ℕ) (j : ℕ) → j < 8 → at (eight f) j ≡ f j
at-eight f j h = get_or-map-range_with_len f 0 8 j j 0 h (omega arith)

as_eight : (xs : List ℕ) → length xs ≡ 8 → xs ≡ eight (at xs)
as_eight xs h = sym (eight_numbers (at xs) xs h (λ j _. refl))

-- what is computed of lists is computed of each lane
lane_wise : (F : List ℕ → List ℕ → List ℕ → List ℕ → List ℕ → List ℕ) (f : ℕ → ℕ → ℕ → ℕ → ℕ → ℕ)
    → ((r w m l c : ℕ → ℕ) → F (eight r) (eight w) (eight m) (eight l) (eight c) ≡ eight (λ j. f (r j) (w j) (m j) (l j) (c j)))
    → (rs ws ms ls cs : List ℕ) → length rs ≡ 8 → length ws ≡ 8 → length ms ≡ 8 → length ls ≡ 8 → length cs ≡ 8
    → F rs ws ms ls cs ≡ eight (λ j. f (at rs j) (at ws j) (at ms j) (at ls j) (at cs j))
lane_wise F f each rs ws ms ls cs hr hw hm hl hc =
    ap (λ x. F x ws ms ls cs) (as_eight rs hr)
    ∙ ap (λ x. F (eight (at rs)) x ms ls cs) (as_eight ws hw)
    ∙ ap (λ x. F (eight (at rs)) (eight (at ws)) x ls cs) (as_eight ms hm)
    ∙ ap (λ x. F (eight (at rs)) (eight (at ws)) (eight (at ms)) x cs) (as_eight ls hl)
    ∙ ap (λ x. F (eight (at rs)) (eight (at ws)) (eight (at ms)) (eight (at ls)) x) (as_eight cs hc)
    ∙ each (at rs) (at ws) (at ms) (at ls) (at cs)

module _ (rs ws ms ls cs : List ℕ) (h : AreLayers rs ws ms) (hl : length ls ≡ 8) (hc : length cs ≡ 8) where
  references_are : new_references rs ws ms ls cs ≡ eight (λ j. raised_at (at rs j) (at ws j) (at ms j) (at ls j) (at cs j))
  references_are = lane_wise new_references raised_at (λ r w m l c. refl) rs ws ms ls cs h.eight_references h.eight_workings h.eight_masks hl hc

  workings_are : new_workings rs ws ms ls cs ≡ eight (λ j. working_at (at rs j) (at ws j) (at ms j) (at ls j) (at cs j))
  workings_are = lane_wise new_workings working_at (λ r w m l c. refl) rs ws ms ls cs h.eight_references h.eight_workings h.eight_masks hl hc

  masks_are : new_masks rs ws ms ls cs ≡ eight (λ j. mask_of (at rs j) (at ws j) (at ms j) (at ls j) (at cs j))
  masks_are = lane_wise new_masks mask_of (λ r w m l c. refl) rs ws ms ls cs h.eight_references h.eight_workings h.eight_masks hl hc

  module _ (within : (j : ℕ) → j < 8 → at ls j ≤ HELD_TOP) (fit : (j : ℕ) → j < 8 → at cs j < 2 ^ 32) where
    lane : (j : ℕ) → j < 8 → IsLaneStep (at rs j) (at ws j) (at ms j) (at ls j) (at cs j) (at (new_references rs ws ms ls cs) j) (at (new_workings rs ws ms ls cs) j) (at (new_masks rs ws ms ls cs) j)
    lane j lt =
        let r = ap (λ x. at x j) references_are ∙ at-eight (λ k. raised_at (at rs k) (at ws k) (at ms k) (at ls k) (at cs k)) j lt ∙ raised-is-reference (at rs j) (at ws j) (at ms j) (at ls j) (at cs j) (h.layers j lt) (within j lt) in
        let w = ap (λ x. at x j) workings_are ∙ at-eight (λ k. working_at (at rs k) (at ws k) (at ms k) (at ls k) (at cs k)) j lt in
        let m = ap (λ x. at x j) masks_are ∙ at-eight (λ k. mask_of (at rs k) (at ws k) (at ms k) (at ls k) (at cs k)) j lt in
        let is = one_lane (at rs j) (at ws j) (at ms j) (at ls j) (at cs j) (h.layers j lt) (within j lt) (fit j lt) in
        subst (λ x. IsLaneStep (at rs j) (at ws j) (at ms j) (at ls j) (at cs j) x (at (new_workings rs ws ms ls cs) j) (at (new_masks rs ws ms ls cs) j)) (sym r)
        (subst (λ x. IsLaneStep (at rs j) (at ws j) (at ms j) (at ls j) (at cs j) (reference_at (at rs j) (at ws j) (at ms j) (at ls j) (at cs j)) x (at (new_masks rs ws ms ls cs) j)) (sym w)
        (subst (λ x. IsLaneStep (at rs j) (at ws j) (at ms j) (at ls j) (at cs j) (reference_at (at rs j) (at ws j) (at ms j) (at ls j) (at cs j)) (working_at (at rs j) (at ws j) (at ms j) (at ls j) (at cs j)) x) (sym m) is))

    pub new_layers : AreLayers (new_references rs ws ms ls cs) (new_workings rs ws ms ls cs) (new_masks rs ws ms ls cs)
    new_layers = record {
      eight_references = ap length references_are ∙ length-map-range_with_len (λ j. raised_at (at rs j) (at ws j) (at ms j) (at ls j) (at cs j)) 0 8;
      eight_workings = ap length workings_are ∙ length-map-range_with_len (λ j. working_at (at rs j) (at ws j) (at ms j) (at ls j) (at cs j)) 0 8;
      eight_masks = ap length masks_are ∙ length-map-range_with_len (λ j. mask_of (at rs j) (at ws j) (at ms j) (at ls j) (at cs j)) 0 8;
      layers = λ j lt. (lane j lt).layers;
    }

    pub new_state : (j : ℕ) → j < 8 → slice_index_or (states_of (new_references rs ws ms ls cs) (new_workings rs ws ms ls cs) (new_masks rs ws ms ls cs)) j empty_state ≡ step_with (slice_index_or (states_of rs ws ms) j empty_state) (at ls j) (samples_of (at cs j))
    new_state j lt =
        state_at (new_references rs ws ms ls cs) (new_workings rs ws ms ls cs) (new_masks rs ws ms ls cs) j lt
        ∙ (lane j lt).step
        ∙ ap (λ s. step_with s (at ls j) (samples_of (at cs j))) (sym (state_at rs ws ms j lt))
