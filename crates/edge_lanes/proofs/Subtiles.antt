-- The eight subtiles of a tile, by the edges' values at the tile's first sample.
use Rattle.std.proofs.Common.{◌≡◌, ℕ, ℤ, zero, suc, pos, negsuc, ◌+◌, ◌-◌, ◌*◌, ◌/◌, ◌%◌, ◌^◌, ◌<◌, ◌+ℤ◌, ◌*ℤ◌, ◌≤ℤ◌, ◌<ℤ◌, arith, refl, ap, sym, ◌∙◌, Bool, true, false, cond, ◌⊎◌, inl, inr, min, map, bit_and, w32, w64, FitsSigned, to_z, of_z, slice_index_or}
use Rattle.std.specs.Int.{int_min, int_max, bit_at}
use Rattle.std.specs.Simd.Lanes.{mask_l}
use Rattle.std.proofs.lemmas.Bool.{both_ways}
use Rattle.std.proofs.lemmas.Int.{clamps, ints, to_z-of_z}
use Rattle.std.proofs.lemmas.List.FromFn.{get_or-map-range_with_len}
use Rattle.std.proofs.lemmas.Nat.{and_le_r}
use Rattle.std.proofs.lemmas.Nat.Bits.{bit_at_and, bit_at-lt}
use Rattle.std.proofs.lemmas.Simd.{bit_mask_l, mask_l-lt}
use Rattle.cull_base.specs.Bounds.{Bounded}
use Rattle.cull_base.specs.State.{samples_of, no_samples}
use Rattle.cull_base.specs.declared.place.Tile.{Tile}
use Rattle.cull_base.proofs.Masks.{samples_of-mask_l_each}
use Rattle.edge_lanes.specs.Lanes.{columns, highest_of, lowest_of, is_not_negative, subtile_signs, subtile_step, subtile_steps}
use Rattle.edge_lanes.specs.Lines.{Line, Lines, candidates_of, candidates_of_all, inside_all, inside_lines, mask_of_all, moved_to, whole_of, whole_of_all}
use Rattle.edge_lanes.specs.Inside.{sub_of}
use Rattle.edge_lanes.proofs.Extremes.{Accepts, Rejects, accepted_by_all, not_negative, rejected, step_least, step_most}
use Rattle.edge_lanes.proofs.Inside.{Begins, inside_all-begun}

subtile_step-bounded : (n : ℕ) (column row : ℤ) (j : ℕ) → j < 8 → Bounded n column → Bounded n row → Bounded (28 * n) (subtile_step column row j)
subtile_step-bounded n column row j l bc br =
    sums column row (row *ℤ pos (4 * (j / 4))) (column *ℤ pos (8 * (j % 4))) bc br
    (step_most row 4 (4 * (j / 4)) (omega arith)) (step_least row 4 (4 * (j / 4)) (omega arith))
    (step_most column 24 (8 * (j % 4)) (omega arith)) (step_least column 24 (8 * (j % 4)) (omega arith))
  where
    sums : (column row a b : ℤ) → Bounded n column → Bounded n row → a ≤ℤ int_max (row *ℤ pos 4) (pos 0) → int_min (row *ℤ pos 4) (pos 0) ≤ℤ a →
        b ≤ℤ int_max (column *ℤ pos 24) (pos 0) → int_min (column *ℤ pos 24) (pos 0) ≤ℤ b → Bounded (28 * n) (a +ℤ b)
    sums column row a b bc br p q r s = omega (arith, ints, clamps)

pub wide_step-bounded : (column row : ℤ) (j : ℕ) → j < 8 → Bounded (2 ^ 34) column → Bounded (2 ^ 34) row → Bounded (2 ^ 40) (subtile_step column row j)
wide_step-bounded column row j l bc br = wider (subtile_step column row j) (subtile_step-bounded (2 ^ 34) column row j l bc br)
  where
    wider : (v : ℤ) → Bounded (28 * 2 ^ 34) v → Bounded (2 ^ 40) v
    wider v b = omega (arith, ints)

pub narrow_step-bounded : (column row : ℤ) (j : ℕ) → j < 8 → Bounded (2 ^ 20) column → Bounded (2 ^ 20) row → Bounded (2 ^ 25) (subtile_step column row j)
narrow_step-bounded column row j l bc br = wider (subtile_step column row j) (subtile_step-bounded (2 ^ 20) column row j l bc br)
  where
    wider : (v : ℤ) → Bounded (28 * 2 ^ 20) v → Bounded (2 ^ 25) v
    wider v b = omega (arith, ints)

pub index-subtile_steps : (column row : ℤ) (j : ℕ) → j < 8 → slice_index_or (subtile_steps column row) j (pos 0) ≡ subtile_step column row j
index-subtile_steps column row j l = get_or-map-range_with_len (subtile_step column row) 0 8 j j (pos 0) l (omega arith)

-- a value, moved to a subtile, in 64 bits
pub moved_fits : (s o : ℤ) → Bounded (2 ^ 61 + 2 ^ 49) s → Bounded (2 ^ 40) o → FitsSigned w64 (to_z w64 (of_z w64 s) +ℤ to_z w64 (of_z w64 o))
moved_fits s o bs bo = let fs : FitsSigned w64 s = omega (arith, ints) in let fo : FitsSigned w64 o = omega (arith, ints) in simp to_z-of_z (omega (arith, ints))

-- the same in 32 bits
pub narrow_moved_fits : (s o : ℤ) → Bounded (2 ^ 30 + 2 ^ 26) s → Bounded (2 ^ 25) o → FitsSigned w32 (to_z w32 (of_z w32 s) +ℤ to_z w32 (of_z w32 o))
narrow_moved_fits s o bs bo = let fs : FitsSigned w32 s = omega (arith, ints) in let fo : FitsSigned w32 o = omega (arith, ints) in simp to_z-of_z (omega (arith, ints))

pub narrow_moved_is : (s o : ℤ) → Bounded (2 ^ 30 + 2 ^ 26) s → Bounded (2 ^ 25) o → to_z w32 (of_z w32 (to_z w32 (of_z w32 s) +ℤ to_z w32 (of_z w32 o))) ≡ s +ℤ o
narrow_moved_is s o bs bo =
    let fs : FitsSigned w32 s = omega (arith, ints) in let fo : FitsSigned w32 o = omega (arith, ints) in
    let f : FitsSigned w32 (s +ℤ o) = omega (arith, ints) in simp to_z-of_z

bit_at-subtile_signs : (column row v : ℤ) (j : ℕ) → j < 8 → bit_at (subtile_signs column row v) j ≡ cond (is_not_negative (v +ℤ subtile_step column row j)) 1 0
bit_at-subtile_signs column row v j l =
    let test : ℕ → Bool = λ k. is_not_negative (v +ℤ subtile_step column row k) in
    bit_mask_l (map test columns) j ∙ ap (λ (b : Bool). cond b 1 0) (get_or-map-range_with_len test 0 8 j j false l (omega arith))

-- a subtile's bit, by the value that is moved to the subtile first
moved_bit : (column row s h : ℤ) (j b : ℕ) → j < 8 → bit_at (subtile_signs column row (s +ℤ h)) j ≡ b → ◌≡◌ {A = ℕ} (cond (is_not_negative ((s +ℤ subtile_step column row j) +ℤ h)) 1 0) b
moved_bit column row s h j b l bit = ap (λ (v : ℤ). cond (is_not_negative v) 1 0) (swapped s h (subtile_step column row j)) ∙ sym (bit_at-subtile_signs column row (s +ℤ h) j l) ∙ bit
  where
    swapped : (s h o : ℤ) → (s +ℤ o) +ℤ h ≡ (s +ℤ h) +ℤ o
    swapped s h o = omega (arith, ints)

-- an edge without the bit of a subtile rejects it
rejects_clear : (e : Line) (s : ℤ) (j : ℕ) → j < 8 → bit_at (candidates_of e s) j ≡ 0 → Rejects e (moved_to e s j)
rejects_clear e s j l bit = negative ((s +ℤ subtile_step e.column e.row j) +ℤ highest_of e.column e.row) (clear _ (moved_bit e.column e.row s (highest_of e.column e.row) j 0 l bit))
  where
    clear : (b : Bool) → ◌≡◌ {A = ℕ} (cond b 1 0) 0 → b ≡ false
    clear true h = absurd (omega arith)
    clear false h = refl

    negative : (v : ℤ) → is_not_negative v ≡ false → v <ℤ pos 0
    negative (pos n) h = absurd (both_ways (is_not_negative (pos n)) h (not_negative (pos n) (omega (arith, ints))))
    negative (negsuc n) h = omega (arith, ints)

-- where a bit is in none of three masks joined, one of them is without it
one_clear : (a b c j : ℕ) → bit_at (bit_and (bit_and a b) c) j ≡ 0 → (bit_at a j ≡ 0) ⊎ ((bit_at b j ≡ 0) ⊎ (bit_at c j ≡ 0))
one_clear a b c j h = of_least (bit_at a j) (bit_at b j) (bit_at c j) (sym (bit_at_and (bit_and a b) c j ∙ ap (λ (m : ℕ). min m (bit_at c j)) (bit_at_and a b j)) ∙ h)
  where
    of_least : (x y z : ℕ) → min (min x y) z ≡ 0 → (x ≡ 0) ⊎ ((y ≡ 0) ⊎ (z ≡ 0))
    of_least zero y z h = inl refl
    of_least (suc x) zero z h = inr (inl refl)
    of_least (suc x) (suc y) zero h = inr (inr refl)
    of_least (suc x) (suc y) (suc z) h = absurd (omega arith)

-- three masks of signs, joined
signs-lt : (a b : ℕ) (column row v : ℤ) → bit_and (bit_and a b) (subtile_signs column row v) < 2 ^ 8
signs-lt a b column row v =
    let l = and_le_r (bit_and a b) (subtile_signs column row v) in
    let byte : subtile_signs column row v < 2 ^ 8 = mask_l-lt (map (λ j. is_not_negative (v +ℤ subtile_step column row j)) columns) in
    omega arith

pub candidates_byte : (a b c : ℕ) (e : Line) (s : ℤ) → c ≡ candidates_of e s → bit_and (bit_and a b) c < 2 ^ 8
candidates_byte a b c e s is = rw is (signs-lt a b e.column e.row (s +ℤ highest_of e.column e.row))

pub whole_byte : (a b c : ℕ) (e : Line) (s : ℤ) → c ≡ whole_of e s → bit_and (bit_and a b) c < 2 ^ 8
whole_byte a b c e s is = rw is (signs-lt a b e.column e.row (s +ℤ lowest_of e.column e.row))

pub no_samples-clear : (e : Lines) (tile : Tile) (s t v : ℤ) → Begins e.first tile s → Begins e.second tile t → Begins e.third tile v →
    (j : ℕ) → j < 8 → bit_at (candidates_of_all e s t v) j ≡ 0 → inside_lines e (sub_of tile j) ≡ no_samples
no_samples-clear e tile s t v f g h j lt z =
    let a : ℤ = moved_to e.first s j in let b : ℤ = moved_to e.second t j in let c : ℤ = moved_to e.third v j in
    sym (inside_all-begun e tile s t v j lt f g h)
    ∙ sym (samples_of-mask_l_each (inside_all e a b c)) ∙ ap samples_of (rejected e a b c (which (one_clear (candidates_of e.first s) (candidates_of e.second t) (candidates_of e.third v) j z)))
  where
    which : (bit_at (candidates_of e.first s) j ≡ 0) ⊎ ((bit_at (candidates_of e.second t) j ≡ 0) ⊎ (bit_at (candidates_of e.third v) j ≡ 0)) →
        Rejects e.first (moved_to e.first s j) ⊎ (Rejects e.second (moved_to e.second t j) ⊎ Rejects e.third (moved_to e.third v j))
    which (inl x) = inl (rejects_clear e.first s j lt x)
    which (inr (inl x)) = inr (inl (rejects_clear e.second t j lt x))
    which (inr (inr x)) = inr (inr (rejects_clear e.third v j lt x))

pub mask_of_all-begun : (e : Lines) (tile : Tile) (s t v : ℤ) (j : ℕ) → j < 8 → Begins e.first tile s → Begins e.second tile t → Begins e.third tile v →
    mask_of_all e s t v j ≡ mask_l (inside_lines e (sub_of tile j))
mask_of_all-begun e tile s t v j l f g h = ap mask_l (inside_all-begun e tile s t v j l f g h)

-- an edge with the bit of a subtile accepts it
accepts_set : (e : Line) (s : ℤ) (j : ℕ) → j < 8 → bit_at (whole_of e s) j ≡ 1 → Accepts e (moved_to e s j)
accepts_set e s j l bit = at_least ((s +ℤ subtile_step e.column e.row j) +ℤ lowest_of e.column e.row) (set _ (moved_bit e.column e.row s (lowest_of e.column e.row) j 1 l bit))
  where
    set : (b : Bool) → ◌≡◌ {A = ℕ} (cond b 1 0) 1 → b ≡ true
    set true h = refl
    set false h = absurd (omega arith)

    at_least : (v : ℤ) → is_not_negative v ≡ true → pos 0 ≤ℤ v
    at_least (pos n) h = omega (arith, ints)
    at_least (negsuc n) h = absurd (both_ways (is_not_negative (negsuc n)) refl h)

-- where a bit is in three masks joined, it is in each
each_set : (a b c j : ℕ) → bit_at (bit_and (bit_and a b) c) j ≡ 1 → (bit_at a j ≡ 1) × ((bit_at b j ≡ 1) × (bit_at c j ≡ 1))
each_set a b c j h =
    of_least (bit_at a j) (bit_at b j) (bit_at c j) (bit_at-lt a j) (bit_at-lt b j) (bit_at-lt c j) (sym (bit_at_and (bit_and a b) c j ∙ ap (λ (m : ℕ). min m (bit_at c j)) (bit_at_and a b j)) ∙ h)
  where
    of_least : (x y z : ℕ) → x < 2 → y < 2 → z < 2 → min (min x y) z ≡ 1 → (x ≡ 1) × ((y ≡ 1) × (z ≡ 1))
    of_least x y z lx ly lz e = (omega arith, (omega arith, omega arith))

pub whole-set : (e : Lines) (tile : Tile) (s t v : ℤ) → Begins e.first tile s → Begins e.second tile t → Begins e.third tile v →
    (j : ℕ) → j < 8 → bit_at (whole_of_all e s t v) j ≡ 1 → mask_l (inside_lines e (sub_of tile j)) ≡ 2 ^ 32 - 1
whole-set e tile s t v f g h j lt z =
    let each = each_set (whole_of e.first s) (whole_of e.second t) (whole_of e.third v) j z in
    sym (mask_of_all-begun e tile s t v j lt f g h)
    ∙ accepted_by_all e (moved_to e.first s j) (moved_to e.second t j) (moved_to e.third v j) (accepts_set e.first s j lt each.0) (accepts_set e.second t j lt each.1.0) (accepts_set e.third v j lt each.1.1)
